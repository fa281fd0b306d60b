use lib.ListN.{length}
use Rattle.tree.specs.Load.{unbounded}
use Rattle.tree.specs.Lookup.{way_from}
use Rattle.tree.specs.internal.Bank.{Ready}
use Rattle.tree.specs.Workspace.{state_of}
use Rattle.tree.specs.internal.Tree.{bounds_of, BoundsIn}
use Rattle.tree.specs.Lent.{lent_of}
use Rattle.tree.specs.internal.Steps.{positions}
use Rattle.tree.specs.internal.Way.{steps_in, onto}
use Rattle.tree.specs.internal.Undo.{Follows}
use Prim.Native.Nat.{◌-◌, ◌≤◌}
use mathlib.Core.Path.{◌≡◌}
use Rattle.tree.proofs.editor.Tree.way_down.Given as goal

abbrev pub invariant-loop-k : goal.invariant-loop-k
invariant-loop-k l =
    let s = state_of l.lent.size l.t l.heads l.bytes in
    let s₀ = state_of l.lent.size l.initial.t l.initial.heads l.initial.bytes in
    record {
      taken : length (positions l.steps) ≡ l._k;
      within : BoundsIn l.t.used l.b;
      ready : Ready l.lent.size l.lent.slots l.t.used l.heads l.bytes;
      whole : onto (steps_in (positions l.steps)) (way_from (l.level - l._k) (lent_of l.image l.lent) s (bounds_of s l.b) l.n l.key)
          ≡ way_from l.level (lent_of l.image l.lent) s₀ unbounded l.initial.t.root l.key;
      more : l.initial.t.used ≤ l.t.used;
      follows : Follows l.lent.size l.lent.slots l.initial.t.used l.initial.heads l.initial.bytes l.heads l.bytes;
    }
