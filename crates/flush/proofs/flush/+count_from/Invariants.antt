use mathlib.Core.Path.{◌≡◌}
use lib.ListN.{drop}
use Rattle.tree.specs.Format.{entries_of}
use Rattle.tree.specs.State.{node_at}
use Rattle.tree.specs.Workspace.{state_of}
use Rattle.flush.specs.Flush.{sum_kids, sum_from}
use Rattle.flush.specs.internal.Counts.{dirty_one, id_one, Counted}
use Prim.Native.Nat.{◌-◌}
use Rattle.flush.proofs.flush.+count_from.Given as goal

abbrev pub decreases-count_from : goal.decreases-count_from
decreases-count_from l = l.d

abbrev pub invariant-loop-r : goal.invariant-loop-r
invariant-loop-r l =
    let w = l.r-iterator in
    let s = state_of l.v.lent.size l.v.tree l.v.heads.now l.v.bytes.now in
    let dirty = sum_kids (sum_from dirty_one (l.d - 1) s) in
    let ids = sum_kids (sum_from (id_one l.v.tree.by_id) (l.d - 1) s) in
    let es = entries_of w.records.count w.records.slot.now in
    record {
      same : (node_at s l.n).entries ≡ es;
      counted : Counted l.limit (dirty es) (ids es) l.initial.sum l.sum (dirty (drop w.index es)) (ids (drop w.index es));
    }
