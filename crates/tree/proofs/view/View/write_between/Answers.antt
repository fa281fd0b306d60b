use Rattle.std.proofs.Common.{arith, rules, ◌∙◌, ◌≤◌}
use Rattle.tree.specs.laws.lookup.Between.{length_taken, length_passed, write_passed, write_room, write_taken, write_ends, write_done}
use Rattle.tree.proofs.view.View.write_between.Goals as goal

pub copy_to-requires : goal.copy_to-requires
copy_to-requires c =
    let v = c.loop-r.invariant in
    let s = c.in-Some.ensures.steps in
    let p = s.start ∙ c.loop-r.r-iterator.start in
    let k = s.slot in
    rw k (write_room _ _ _ _ _ c.loop-r.r-iterator.records.within _ _ s.within p _ (rw (c.key.ensures, k) at c.holds.ensures) c.if-holds.true _ (rw k at c.next-next.ensures) c.loop-r.out c.args.out.now _ _ v.ends v.long c.requires.room)

pub loop-r-preserved-then-holds : goal.loop-r-preserved-then-holds
loop-r-preserved-then-holds c =
    let v = c.loop-r.invariant in
    let s = c.in-Some.ensures.steps in
    let h = c.loop-r.r-iterator.records.within in
    let p = s.start ∙ c.loop-r.r-iterator.start in
    let k = s.slot in
    let b = rw (c.key.ensures, k) at c.holds.ensures in
    let n = rw k at c.next-next.ensures in
    record {
      bytes = rw s.records v.bytes;
      long = search (rules, c.copy_to.auto, v.long);
      ends = rw (s.records, s.next) (length_taken _ _ _ _ _ h _ _ s.within p _ b c.if-holds.true _ n _ _ v.ends);
      written = rw (s.records, s.next) (write_taken _ _ _ _ _ h _ _ s.within p _ b c.if-holds.true _ n c.loop-r.out c.args.out.now _ _ v.ends v.long c.requires.room _ _ v.bytes (rw k at c.copy_to.ensures) v.written);
    }

pub loop-r-preserved : goal.loop-r-preserved
loop-r-preserved c =
    let v = c.loop-r.invariant in
    let s = c.in-Some.ensures.steps in
    let h = c.loop-r.r-iterator.records.within in
    let p = s.start ∙ c.loop-r.r-iterator.start in
    let b = rw (c.key.ensures, s.slot) at c.holds.ensures in
    record {
      bytes = rw s.records v.bytes;
      long = v.long;
      ends = rw (s.records, s.next) (length_passed _ _ _ _ _ h _ _ s.within p _ b c.if-holds.false _ _ v.ends);
      written = rw (s.records, s.next) (write_passed _ _ _ _ _ h _ _ s.within p _ b c.if-holds.false _ _ _ v.written);
    }

pub returns : goal.returns
returns c =
    let v = c.loop-r.invariant in
    let w = c.loop-r.r-iterator in
    let e = c.in-None.ensures.steps in
    let h : w.records.count ≤ w.index = omega arith in
    record { end = write_ends _ _ _ _ _ _ _ _ h v.ends; output = write_done _ _ _ _ _ _ _ _ _ h v.written }
