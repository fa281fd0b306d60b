use Rattle.tree.specs.State.{node_at}
use Rattle.tree.specs.internal.View.{seen}
use Rattle.tree.specs.internal.Range.{end_of, next_entered}
use lib.ListN.{length}
use Prim.Native.Nat.{◌-◌}
use mathlib.Core.Path.{◌≡◌}
use Rattle.tree.proofs.view.View.next_entered.Given as goal

abbrev pub invariant-loop-i : goal.invariant-loop-i
invariant-loop-i l =
    let i = l.i-iterator.index in
    let es = (node_at (seen l.self) l.n).entries in
    record {
      same : l.i-iterator.records ≡ l.records;
      goes : next_entered l.order.code l.asked.lo.now (end_of l.asked.hi) es (l.records.count - i) i
          ≡ next_entered l.order.code l.asked.lo.now (end_of l.asked.hi) es (length es - l.from) l.from;
    }
