use mathlib.Core.Path.{◌≡◌}
use lib.ListN.{length}
use Prim.Native.Nat.{◌-◌}
use Rattle.tree.specs.internal.Removing.{Handing}
use Rattle.tree.proofs.editor.Tree.hand_down.Given as goal

abbrev pub invariant-loop-i : goal.invariant-loop-i
invariant-loop-i l = (length l.heads ≡ length l.initial.heads) × (length l.bytes ≡ length l.initial.bytes)
    × Handing l.image l.lent l.initial.t l.initial.heads l.initial.bytes l.n l.t l.heads l.bytes (l.n - l._i)
