use mathlib.Core.Path.{◌≡◌}
use lib.ListN.{length}
use Rattle.tree.specs.internal.Way.{steps_left, PairsOf}
use Rattle.tree.specs.internal.Cutting.{CutFrom}
use Rattle.tree.proofs.editor.Tree.cuts.Given as goal

abbrev pub invariant-loop-up : goal.invariant-loop-up
invariant-loop-up l =
    (goal.iterator-loop-up).can_next l.up-iterator × (goal.iterator-loop-up).is_finite l.up-iterator
    × PairsOf l.way l.up-iterator
    × (length l.heads ≡ length l.initial.heads) × (length l.bytes ≡ length l.initial.bytes) × (length l.scratch ≡ length l.initial.scratch)
    × CutFrom l.lent l.initial.t l.way (length (steps_left l.up-iterator)) l.initial.heads l.initial.bytes l.t l.heads l.bytes
