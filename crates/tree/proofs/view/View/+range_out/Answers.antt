use native.Mathlib.Omega.{arith}
use borrow.Author.Rules.{rules}
use Rattle.std.proofs.Common.{[], ◌≡◌, ◌-◌, ap, refl, ◌∙◌}
use Rattle.tree.specs.internal.View.{seen}
use Rattle.tree.specs.internal.Range.{end_of, held_child, range_held}
use Rattle.tree.specs.laws.slots.Records.{count_is}
use Rattle.tree.specs.laws.lookup.RangeOut.{kid_at, passed, no_child, in_slot, leaf_room, leaf_end, kids_start, kids_start_out, kids_end, kids_out, kid_room, kid_end, kid_out, idle_end, idle_out}
use Rattle.tree.proofs.view.View.+range_out.Goals.{else-enters-via-else-enters, else-enters-via-then-enters+in-None-1}
use Rattle.tree.proofs.view.View.+range_out.Goals as goal

pub write_between-requires : goal.write_between-requires
write_between-requires t c = record { room = leaf_room _ c.args.self.tree _ _ _ _ _ _ c.if-d-eq0.true _ _ c.requires.room }

pub returns-then-d-eq0-clause-end : goal.returns-then-d-eq0-clause-end
returns-then-d-eq0-clause-end t c = leaf_end _ c.args.self.tree _ _ _ _ _ _ c.if-d-eq0.true _ _ c.write_between.ensures.end

pub loop-i-init : goal.loop-i-init
loop-i-init t c =
    let x = c.records-records in
    let w = c.into_iter-i-iterator.ensures.into_iter_gives in
    let e = ap (λ x. x.index) w ∙ c.walk-i-items.ensures.1 in
    let n = count_is _ _ _ x.ensures.entries in
    record {
      same = ap (λ x. x.records) w ∙ c.walk-i-items.ensures.0;
      long = refl;
      ends = rw e (kids_start _ c.args.self.tree _ _ _ _ _ _ c.if-d-eq0.false _ n _);
      written = rw e (kids_start_out _ c.args.self.tree _ _ _ _ _ _ c.if-d-eq0.false _ n _ _);
    }

pub range_out-end-requires : goal.range_out-end-requires
range_out-end-requires t c =
    let v = c.loop-i.invariant in
    let s = c.in-Some.ensures.steps in
    let x = c.records-records.ensures.entries in
    let h = rw v.same at s.within in
    let p = s.start ∙ rw v.same at c.loop-i.i-iterator.start in
    let ee = rw (s.index, ← x) at c.enters.ensures in
    let q = in_slot _ c.args.self.tree _ _ _ _ _ _ _ _ ee c.if-enters.true _ (kid_at _ _ _ x _ _ h _ (rw v.same at s.slot) p _ c.kid_of.ensures) _ c.in-Some-kid_of.is in
    (search (rules, c.if-d-eq0.false, c.decreases), kid_room _ _ _ _ _ _ _ h _ q _ _ v.ends c.loop-i.out c.args.out.now v.long c.requires.room)

pub loop-i-preserved-in-loop-i : goal.loop-i-preserved-in-loop-i
loop-i-preserved-in-loop-i t c =
    let v = c.loop-i.invariant in
    let s = c.in-Some.ensures.steps in
    let x = c.records-records.ensures.entries in
    let h = rw v.same at s.within in
    let p = s.start ∙ rw v.same at c.loop-i.i-iterator.start in
    let ee = rw (s.index, ← x) at c.enters.ensures in
    let q = in_slot _ c.args.self.tree _ _ _ _ _ _ _ _ ee c.if-enters.true _ (kid_at _ _ _ x _ _ h _ (rw v.same at s.slot) p _ c.kid_of.ensures) _ c.in-Some-kid_of.is in
    let g = c.range_out-end.ensures in
    record {
      same = s.records ∙ v.same;
      long = search (rules, c.range_out-end.auto, v.long);
      ends = rw s.next (kid_end _ _ _ _ _ _ _ h _ q _ _ v.ends _ g.end);
      written = rw s.next (kid_out _ _ _ _ _ _ _ h _ q _ _ v.ends _ g.end c.loop-i.out c.args.out.now _ _ v.long c.requires.room g.output v.written);
    }

pub loop-i-preserved : goal.loop-i-preserved
loop-i-preserved t c =
    let v = c.loop-i.invariant in
    let s = c.in-Some.ensures.steps in
    let x = c.records-records.ensures.entries in
    let h = rw v.same at s.within in
    let p = s.start ∙ rw v.same at c.loop-i.i-iterator.start in
    let ee = rw (s.index, ← x) at c.enters.ensures in
    let lo = c.args.asked.lo.now in
    let hi = end_of c.args.asked.hi in
    let q : held_child (range_held (c.args.d - 1) (seen c.args.self) lo hi) (seen c.args.self) lo hi c.args.n c.loop-i.i-iterator.index ≡ [] =
    elim c.else-enters.branch [
      | else-enters-via-else-enters w ↦ passed _ c.args.self.tree _ _ _ _ _ _ _ _ ee w.if-enters.false
      | else-enters-via-then-enters+in-None-1 w ↦ no_child _ c.args.self.tree _ _ _ _ _ _ _ _ ee w.if-enters.true _ (kid_at _ _ _ x _ _ h _ (rw v.same at s.slot) p _ w.kid_of.ensures) (search (rules, w))
    ] in
    record {
      same = s.records ∙ v.same;
      long = v.long;
      ends = rw s.next (idle_end _ _ _ _ _ _ _ h q _ _ v.ends);
      written = rw s.next (idle_out _ _ _ _ _ _ _ h q _ _ _ v.written);
    }

pub returns-clause-end : goal.returns-clause-end
returns-clause-end t c =
    let v = c.loop-i.invariant in
    let e = c.in-None.ensures.steps in
    let k = ap (λ x. x.count) v.same in
    kids_end _ _ _ _ _ _ _ (omega arith) _ _ v.ends

pub returns-clause-output : goal.returns-clause-output
returns-clause-output t c =
    let v = c.loop-i.invariant in
    let e = c.in-None.ensures.steps in
    let k = ap (λ x. x.count) v.same in
    kids_out _ _ _ _ _ _ _ (omega arith) _ _ _ v.written
