use Rattle.std.proofs.Common.{take}
use Rattle.script.specs.Out.{Gathers}
use Rattle.script.proofs.out.Out.text.Given as goal

abbrev pub invariant-loop-b : goal.invariant-loop-b
invariant-loop-b g l = Gathers g.W.Write.contents l.initial.self l.self (take l.b-index l.s)
