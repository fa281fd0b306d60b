use Rattle.std.proofs.Common.{◌≡◌, ◌*◌, length, take}
use Rattle.script.specs.Out.{hex_text}
use Rattle.script.proofs.out.hex_digits.Given as goal

abbrev pub invariant-loop-i : goal.invariant-loop-i
invariant-loop-i l = record {
  room : length l.room ≡ length l.initial.room;
  shown : take (2 * l.i) l.room ≡ hex_text (take l.i l.s);
}
