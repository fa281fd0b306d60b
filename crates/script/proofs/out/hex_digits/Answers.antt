use Rattle.std.proofs.Common.{arith, length-set}
use Rattle.script.specs.laws.OutLaws.{hex_more}
use Rattle.script.proofs.out.hex_digits.Goals as goal

pub loop-i-preserved : goal.loop-i-preserved
loop-i-preserved c = record {
  room = simp length-set c.loop-i.invariant.room;
  shown = rw (c.hex_digit.ensures, c.hex_digit-in-loop-i.ensures)
      (hex_more c.args.s.now c.loop-i.room c.loop-i.i c.loop-i-test.true (omega arith) c.loop-i.invariant.shown);
}
