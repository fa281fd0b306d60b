use Rattle.std.proofs.Common.{arith, rules, refl, sym, ap, ◌∙◌}
use Rattle.flush.specs.laws.GoingLaws.{go_start, go_turn, go_alive, go_fits}
use Rattle.flush.specs.laws.StepLaws.{kept_refl, kept_on, spaced_same, fitting_same}
use Rattle.flush.proofs.flush.Source.+write_from.Goals as goal

pub loop-r-init : goal.loop-r-init
loop-r-init t c =
    let w = c.into_iter-r-iterator.ensures.into_iter_gives in
    let e = ap (λ x. x.index) w ∙ c.walk-r-items.ensures.1 in
    let f = ap (λ x. x.records) w ∙ c.walk-r-items.ensures.0 in
    let a = c.args in
    let p = c.requires in
    let v = c.view-view.ensures in
    let g = rw (v.0, v.1, v.2, v.3) at c.records-records.ensures.entries in
    record {
      same = rw f g;
      image = refl;
      bitmap = refl;
      free = refl;
      heads = refl;
      kept = kept_refl _;
      going = rw e (go_start _ a.self.lent.slots _ a.self.xid a.n a.d a.self.tree _ _ _ _ _ _ _ _ _ _ _ _ p.standing p.chunks);
    }

pub write_from-requires : goal.write_from-requires
write_from-requires t c =
    let a = c.args in
    let j = c.loop-r.invariant in
    let s = c.in-Some.ensures.steps in
    let o = s.start ∙ c.loop-r.r-iterator.start in
    let k = rw s.slot at c.kid_of.ensures in
    let p = c.requires in
    let g = j.going in
    let i = c.in-Some-kid_of.is in
    let z = c.if-d-eq0.false in (
      omega (arith, c.decreases, z),
      (
        g.left.standing,
        (
          go_alive _ a.self.lent.slots _ a.self.xid a.n a.d a.self.tree _ _ _ _ _ _ _ _ _ _ _ _ _ _ _ _ _ _ _ _ _ g s.within _ o _ k _ i z j.same p.alive.used,
          (
            spaced_same _ _ _ _ j.image g.spaced,
            fitting_same _ _ _ _ _ _ _ j.kept.freed.long j.kept.ids.long j.kept.places.long
                (go_fits _ a.self.lent.slots _ a.self.xid a.n a.d a.self.tree _ _ _ _ _ _ _ _ _ _ _ _ _ _ _ _ _ _ _ _ _ g s.within _ o _ k _ i z j.same p.alive.used _ _ _ p.fitting),
          ),
        ),
      ),
    )

pub loop-r-preserved : goal.loop-r-preserved
loop-r-preserved t c =
    let a = c.args in
    let j = c.loop-r.invariant in
    let s = c.in-Some.ensures.steps in
    let o = s.start ∙ c.loop-r.r-iterator.start in
    let k = rw s.slot at c.kid_of.ensures in
    let e = c.write_from.ensures in
    record {
      same = rw s.records j.same;
      image = search (rules, c.write_from.auto, j);
      bitmap = search (rules, c.write_from.auto, j);
      free = search (rules, c.write_from.auto, j);
      heads = search (rules, c.write_from.auto, j);
      kept = kept_on _ _ _ j.kept e.kept;
      going = rw (s.next, s.records) (go_turn _ a.self.lent.slots _ a.self.xid a.n a.d a.self.tree _ _ _ _ _ _ _ _ _ _ _ _ _ _ _ _ _ _ _ _ _ j.going s.within _ o _ k _ c.in-Some-kid_of.is _ _ _ _ _ _ _ _ e.wrote e.left (spaced_same _ _ _ _ (sym j.image) e.spaced));
    }
