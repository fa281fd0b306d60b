use Rattle.tree.specs.internal.View.{seen}
use Prim.Native.Nat.{◌+◌, ◌-◌}
use mathlib.Core.Path.{◌≡◌}
use lib.ListN.{length}
use Rattle.node.specs.Bytes.{splice}
use Rattle.node.specs.Records.{records_of}
use Rattle.tree.specs.internal.Range.{end_of, held_kids, range_held}
use Rattle.tree.proofs.view.View.+range_out.Given as goal

abbrev pub decreases-range_out : goal.decreases-range_out
decreases-range_out l = l.d

abbrev pub invariant-loop-i : goal.invariant-loop-i
invariant-loop-i l =
    let w = l.i-iterator in
    let lo = l.asked.lo.now in
    let hi = end_of l.asked.hi in
    let s = seen l.self in
    let es = range_held l.d s lo hi l.n in
    let left = held_kids (range_held (l.d - 1) s lo hi) s lo hi l.n (l.records.count - w.index) w.index in
    record {
      same : w.records ≡ l.records;
      long : length l.out ≡ length l.initial.out;
      ends : l.end + length (records_of left) ≡ l.from + length (records_of es);
      written : splice l.out l.end (records_of left) ≡ splice l.initial.out l.from (records_of es);
    }
