use Rattle.std.proofs.Common.{◌≡◌, length, take, drop}
use Rattle.script.specs.Words.{bytes_of}
use Rattle.script.proofs.words.ByteString.decode.Given as goal

abbrev pub invariant-loop-i : goal.invariant-loop-i
invariant-loop-i l = record {
  room : length l.out ≡ length l.initial.out;
  decoded : take l.i l.out ≡ take l.i (bytes_of l.self);
  kept : drop l.i l.out ≡ drop l.i l.initial.out;
}
