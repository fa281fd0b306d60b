use lib.ListN.{length}
use Prim.Native.Nat.{◌-◌}
use mathlib.Core.Path.{◌≡◌}
use Rattle.tree.specs.internal.Way.{steps_left, PairsOf}
use Rattle.tree.specs.internal.Index.{Indexed}
use Rattle.tree.proofs.editor.Tree.index_keys.Given as goal

abbrev pub invariant-loop-above : goal.invariant-loop-above
invariant-loop-above l =
    (goal.iterator-loop-above).can_next l.above-iterator × (goal.iterator-loop-above).is_finite l.above-iterator
    × PairsOf l.way l.above-iterator
    × (length l.heads ≡ length l.initial.heads) × (length l.bytes ≡ length l.initial.bytes) × (length l.scratch ≡ length l.initial.scratch)
    × Indexed l.lent.size l.lent.slots l.self l.way (length (steps_left l.above-iterator) - 1) l.initial.heads l.initial.bytes l.heads l.bytes
