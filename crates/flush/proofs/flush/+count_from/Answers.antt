use Rattle.std.proofs.Common.{arith, rules, ap, ◌∙◌}
use Rattle.flush.specs.laws.TallyLaws.{count_out, count_leaf, own_most, own_few, count_start, count_skip, count_turn, count_end, count_whole}
use Rattle.flush.proofs.flush.+count_from.Goals as goal

pub returns-then-v-n : goal.returns-then-v-n
returns-then-v-n t c = search (rules, count_out)

pub returns-then-d-eq0 : goal.returns-then-d-eq0
returns-then-d-eq0 t c = search (rules, count_leaf)

pub loop-r-init : goal.loop-r-init
loop-r-init t c =
    let a = c.args in
    let w = c.into_iter-r-iterator.ensures.into_iter_gives in
    let e = ap (λ x. x.index) w ∙ c.walk-r-items.ensures.1 in
    let f = ap (λ x. x.records) w ∙ c.walk-r-items.ensures.0 in
    record {
      same = rw f c.records-records.ensures.entries;
      counted = rw e (count_start _ _ _ _ _ _ (own_most a.v.tree.by_id c.live_at-h.result a.s _ c.wanted_at-sum.result c.if-limit-s.false c.wanted_at-sum.ensures.0)
          (own_few a.v.tree.by_id c.live_at-h.result a.s c.wanted_at-sum.result c.requires.1 c.wanted_at-sum.ensures.0 c.wanted_at-sum.ensures.1));
    }

pub loop-r-preserved-in_default : goal.loop-r-preserved-in_default
loop-r-preserved-in_default t c =
    let v = c.loop-r.invariant in
    let s = c.in-Some.ensures.steps in
    let p = s.start ∙ c.loop-r.r-iterator.start in
    let k = rw s.slot at c.kid_of.ensures in
    record { same = rw s.records v.same; counted = rw (s.next, s.records) (count_skip _ _ _ _ _ _ _ _ _ _ _ s.within p _ k v.counted (search rules)) }

pub loop-r-preserved : goal.loop-r-preserved
loop-r-preserved t c =
    let v = c.loop-r.invariant in
    let s = c.in-Some.ensures.steps in
    let p = s.start ∙ c.loop-r.r-iterator.start in
    let k = rw s.slot at c.kid_of.ensures in
    record { same = rw s.records v.same; counted = rw (s.next, s.records) (count_turn _ _ _ _ _ _ _ _ _ _ _ s.within p _ k v.counted _ _ c.in-Some-kid_of.is c.count_from-sum.ensures) }

pub returns : goal.returns
returns t c =
    let v = c.loop-r.invariant in
    let e = c.in-None.ensures.steps in
    count_whole _ _ _ c.args.v.tree _ _ c.if-v-n.false _ c.live_at-h.ensures c.args.s _ c.if-limit-s.false c.requires.1 c.wanted_at-sum.ensures.0
    c.wanted_at-sum.ensures.1 _ _ v.same _ c.if-d-eq0.false _
    (count_end _ _ _ _ _ _ _ _ _ _ (omega arith) v.counted)
