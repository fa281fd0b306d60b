use lib.ListN.{length}
use Rattle.tree.specs.internal.Undo.{Back}
use mathlib.Core.Path.{◌≡◌}
use Rattle.tree.proofs.undo.restore.Given as goal

abbrev pub invariant-loop-n : goal.invariant-loop-n
invariant-loop-n l = (length l.heads ≡ length l.initial.heads) × (length l.bytes ≡ length l.initial.bytes) × Back l.lent.size l.lent.slots l.used l.n l.initial.heads l.initial.bytes l.heads l.bytes
