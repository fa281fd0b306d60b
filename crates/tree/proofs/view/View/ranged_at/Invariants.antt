use lib.ListN.{length, drop}
use Rattle.node.specs.Records.{records_length, entries_of, records_of}
use Rattle.tree.specs.State.{node_at}
use Rattle.tree.specs.Lookup.{between}
use Rattle.tree.specs.internal.Range.{end_of}
use Rattle.tree.specs.internal.View.{seen}
use Prim.Native.Nat.{◌+◌, ◌≤◌, ◌^◌}
use mathlib.Core.Path.{◌≡◌}
use Rattle.tree.proofs.view.View.ranged_at.Given as goal

abbrev pub invariant-loop-r : goal.invariant-loop-r
invariant-loop-r l =
    let w = l.r-iterator in
    let es = (node_at (seen l.self) l.n).entries in
    let left = drop w.index (entries_of w.records.count w.records.slot.now) in
    record {
      small : length w.records.slot.now ≤ 2 ^ 20;
      few : l.count ≤ w.index;
      short : l.length ≤ records_length w.index w.records.slot.now;
      counted : l.count + length (between l.order.code l.asked.lo.now (end_of l.asked.hi) left)
          ≡ length (between l.order.code l.asked.lo.now (end_of l.asked.hi) es);
      summed : l.length + length (records_of (between l.order.code l.asked.lo.now (end_of l.asked.hi) left))
          ≡ length (records_of (between l.order.code l.asked.lo.now (end_of l.asked.hi) es));
    }
