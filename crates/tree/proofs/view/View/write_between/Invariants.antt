use lib.ListN.{length, drop}
use Rattle.node.specs.Bytes.{splice}
use Rattle.node.specs.Records.{entries_of, records_of}
use Rattle.node.specs.laws.base.Bytes.{Bytes}
use Rattle.tree.specs.State.{node_at}
use Rattle.tree.specs.Lookup.{between}
use Rattle.tree.specs.internal.Range.{end_of}
use Rattle.tree.specs.internal.View.{seen}
use Prim.Native.Nat.{◌+◌}
use mathlib.Core.Path.{◌≡◌}
use Rattle.tree.proofs.view.View.write_between.Given as goal

abbrev pub invariant-loop-r : goal.invariant-loop-r
invariant-loop-r l =
    let w = l.r-iterator in
    let es = between l.order.code l.asked.lo.now (end_of l.asked.hi) (node_at (seen l.self) l.n).entries in
    let left = between l.order.code l.asked.lo.now (end_of l.asked.hi) (drop w.index (entries_of w.records.count w.records.slot.now)) in
    record {
      bytes : Bytes w.records.slot.now;
      long : length l.out ≡ length l.initial.out;
      ends : l.end + length (records_of left) ≡ l.from + length (records_of es);
      written : splice l.out l.end (records_of left) ≡ splice l.initial.out l.from (records_of es);
    }
