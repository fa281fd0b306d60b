use Prim.Native.Nat.{◌-◌, ◌≤◌}
use mathlib.Core.Path.{◌≡◌}
use lib.ListN.{length}
use Rattle.tree.specs.Lent.{lent_of}
use Rattle.tree.specs.State.{node_at}
use Rattle.tree.specs.Lookup.{range_from}
use Rattle.tree.specs.Workspace.{state_of}
use Rattle.tree.specs.internal.Bank.{Ready}
use Rattle.tree.specs.internal.Undo.{Follows}
use Rattle.tree.specs.internal.Tree.{bounds_of, BoundsIn}
use Rattle.tree.specs.internal.Range.{most, end_of, counted}
use Rattle.tree.specs.laws.lookup.RangeCountCode.{left_from}
use Rattle.tree.proofs.editor.Tree.+range_from.Given as goal

abbrev pub decreases-range_from : goal.decreases-range_from
decreases-range_from l = l.d

abbrev pub invariant-loop-i : goal.invariant-loop-i
invariant-loop-i l =
    let at = state_of l.lent.size l.initial.found.tree l.initial.heads l.initial.bytes in
    record {
      words : length l.heads ≡ length l.initial.heads;
      room : length l.bytes ≡ length l.initial.bytes;
      count : l.found.count ≤ most;
      length : l.found.length ≤ most;
      bounds : BoundsIn l.found.tree.used l.b;
      ready : Ready l.lent.size l.lent.slots l.found.tree.used l.heads l.bytes;
      more : l.initial.found.tree.used ≤ l.found.tree.used;
      follows : Follows l.lent.size l.lent.slots l.initial.found.tree.used l.initial.heads l.initial.bytes l.heads l.bytes;
      rest : left_from (lent_of l.image l.lent) l.lent.size l.heads l.bytes l.b l.n l.d l.asked.lo.now (end_of l.asked.hi) l.found l.from
          ≡ counted (range_from l.d (lent_of l.image l.lent) l.asked.lo.now (end_of l.asked.hi) at (bounds_of at l.b) l.n);
    }

abbrev pub decreases-loop-i : goal.decreases-loop-i
decreases-loop-i l = length (node_at (state_of l.lent.size l.found.tree l.heads l.bytes) l.n).entries - l.from
