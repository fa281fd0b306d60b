use mathlib.Core.Path.{◌≡◌}
use lib.ListN.{length}
use Rattle.tree.specs.internal.Way.{Dirtied}
use Rattle.tree.proofs.editor.Tree.mark_way.Given as goal

abbrev pub invariant-loop-step : goal.invariant-loop-step
invariant-loop-step l = (length l.heads ≡ length l.initial.heads) × (length l.bytes ≡ length l.initial.bytes) × Dirtied l.lent.size l.lent.slots l.self l.way l.step-index l.initial.heads l.initial.bytes l.heads l.bytes
