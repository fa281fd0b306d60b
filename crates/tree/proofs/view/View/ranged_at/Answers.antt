use Rattle.std.proofs.Common.{arith, refl, ◌∙◌}
use Rattle.node.specs.laws.slot.Records.{records_least}
use Rattle.node.specs.laws.slot.Slot.{at_next}
use Rattle.tree.specs.laws.lookup.Between.{count_taken, length_taken, count_passed, length_passed, sums_are}
use Rattle.tree.proofs.view.View.ranged_at.Goals as goal

pub overflow_add-count : goal.overflow_add-count
overflow_add-count c =
    let v = c.loop-r.invariant in
    let w = c.loop-r.r-iterator in
    omega (arith, v.few, c.in-Some.ensures.steps.within, records_least w.records.count w.records.slot.now, w.records.within, v.small)

pub loop-r-preserved-then-holds : goal.loop-r-preserved-then-holds
loop-r-preserved-then-holds c =
    let v = c.loop-r.invariant in
    let s = c.in-Some.ensures.steps in
    let h = c.loop-r.r-iterator.records.within in
    let p = s.start ∙ c.loop-r.r-iterator.start in
    let b = rw (c.key.ensures, s.slot) at c.holds.ensures in
    let n = rw s.slot at c.next-then-holds.ensures in
    let q = at_next _ _ _ _ p n in
    record {
      small = rw s.records v.small;
      few = omega (arith, v.few, s.next);
      short = rw (s.records, s.next) (omega (arith, v.short, p, q));
      counted = rw (s.records, s.next) (count_taken _ _ _ _ _ h _ _ s.within p _ b c.if-holds.true _ _ v.counted);
      summed = rw (s.records, s.next) (length_taken _ _ _ _ _ h _ _ s.within p _ b c.if-holds.true _ n _ _ v.summed);
    }

pub loop-r-preserved : goal.loop-r-preserved
loop-r-preserved c =
    let v = c.loop-r.invariant in
    let s = c.in-Some.ensures.steps in
    let h = c.loop-r.r-iterator.records.within in
    let p = s.start ∙ c.loop-r.r-iterator.start in
    let b = rw (c.key.ensures, s.slot) at c.holds.ensures in
    let q = at_next _ _ _ _ p refl in
    record {
      small = rw s.records v.small;
      few = omega (arith, v.few, s.next);
      short = rw (s.records, s.next) (omega (arith, v.short, p, q));
      counted = rw (s.records, s.next) (count_passed _ _ _ _ _ h _ _ s.within p _ b c.if-holds.false _ _ v.counted);
      summed = rw (s.records, s.next) (length_passed _ _ _ _ _ h _ _ s.within p _ b c.if-holds.false _ _ v.summed);
    }

pub returns : goal.returns
returns c =
    let v = c.loop-r.invariant in
    let w = c.loop-r.r-iterator in
    let e = c.in-None.ensures.steps in
    sums_are _ _ _ _ _ _ _ _ _ w.records.within v.small (omega (arith, w.few)) (omega arith) w.start v.few (omega (arith, v.short, w.start)) _ v.counted v.summed _
