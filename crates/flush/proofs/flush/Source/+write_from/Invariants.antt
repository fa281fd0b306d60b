use mathlib.Core.Path.{◌≡◌}
use lib.ListN.{length}
use Rattle.tree.specs.Format.{entries_of}
use Rattle.tree.specs.State.{node_at}
use Rattle.flush.specs.internal.Walk.{Kept, Going, state_in}
use Prim.Native.Nat.{◌/◌}
use Rattle.flush.proofs.flush.Source.+write_from.Given as goal

abbrev pub decreases-write_from : goal.decreases-write_from
decreases-write_from l = l.d

abbrev pub invariant-loop-r : goal.invariant-loop-r
invariant-loop-r l =
    let s = l.self in
    let w = l.r-iterator in
    let u = l.initial in
    record {
      same : (node_at (state_in s u.heads) l.n).entries ≡ entries_of w.records.count w.records.slot.now;
      image : length l.image ≡ length u.image;
      bitmap : length l.bitmap ≡ length u.bitmap;
      free : length l.free ≡ length u.free;
      heads : length l.heads ≡ length u.heads;
      kept : Kept u.lists l.lists;
      going : Going s.lent.size s.lent.slots (length u.image / s.lent.size) s.tree s.xid l.d w.records.count w.index w.records.slot.now s.counts.now s.bytes.now
          u.image u.bitmap u.free u.heads u.lists.freed.now u.lists.ids.now u.lists.places.now u.lists.done
          l.image l.bitmap l.free l.heads l.lists.freed.now l.lists.ids.now l.lists.places.now l.lists.done;
    }
