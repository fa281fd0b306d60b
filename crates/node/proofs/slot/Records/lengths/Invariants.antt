use mathlib.Core.Path.{◌≡◌}
use Rattle.node.specs.internal.SlotSteps.{lengths_of}
use Rattle.node.proofs.slot.Records.lengths.Given as goal

abbrev pub invariant-loop : goal.invariant-loop
invariant-loop l = l.s ≡ lengths_of l.info l.counter l.self.slot.now
