use Prim.Native.Nat.{◌+◌, ◌-◌, ◌≤◌}
use mathlib.Core.Path.{◌≡◌}
use lib.ListN.{length}
use Rattle.tree.specs.Workspace.{state_of}
use Rattle.tree.specs.Remove.{drop_emptied}
use Rattle.tree.specs.internal.Way.{steps_left, PairsOf}
use Rattle.tree.specs.internal.Index.{steps_from}
use Rattle.tree.specs.internal.Removing.{Emptied}
use Rattle.tree.proofs.editor.Tree.drop_emptied.Given as goal

abbrev pub invariant-loop-above : goal.invariant-loop-above
invariant-loop-above l =
    (goal.iterator-loop-above).can_next l.above-iterator × (goal.iterator-loop-above).is_finite l.above-iterator
    × PairsOf l.way l.above-iterator
    × (l.dropped + length (steps_left l.above-iterator) ≤ length l.way) × (length l.heads ≡ length l.initial.heads) × (length l.bytes ≡ length l.initial.bytes)
    × Emptied l.lent.size l.lent.slots l.self l.initial.heads l.initial.bytes l.heads l.bytes
    (drop_emptied (steps_from l.way (length (steps_left l.above-iterator) - 1) (length l.way - (length (steps_left l.above-iterator) - 1)))
    (state_of l.lent.size l.self l.initial.heads l.initial.bytes)) l.dropped
