use Rattle.std.proofs.Common.{arith}
use Rattle.std.proofs.lemmas.List.{take_more}
use Rattle.script.specs.laws.OutLaws.{gathers_room, gathers_both}
use Rattle.script.proofs.out.Out.text.Goals as goal

pub returns-then-s-room : goal.returns-then-s-room
returns-then-s-room g c = gathers_room c.args.self.now c.extend.new.self c.args.s.now (omega arith) c.extend.ensures

pub loop-b-preserved : goal.loop-b-preserved
loop-b-preserved g c =
    rw (take_more c.args.s.now c.loop-b.b-index 0 c.loop-b-test.true) (gathers_both c.loop-b.invariant c.byte.ensures)
