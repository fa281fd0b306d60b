use Prim.Native.Nat.{◌≤◌}
use mathlib.Core.Path.{◌≡◌}
use Rattle.node.specs.Fit.{fits}
use Rattle.node.specs.internal.SlotSteps.{lengths_of}
use Rattle.node.specs.Cut.{cut_place}
use Rattle.node.specs.Records.{entries_of}
use mathlib.Core.Bool.{false}
use Rattle.node.proofs.cut.Whole.left.Given as goal

abbrev pub invariant-loop-place : goal.invariant-loop-place
invariant-loop-place l = (l.lengths ≡ lengths_of l.self.node.shape.info l.place l.self.node.records.slot.now)
    × (l.place ≤ cut_place (fits l.self.node.shape.info false l.self.node.shape.level) (entries_of l.n l.self.node.records.slot.now))
