use mathlib.Core.Path.{◌∙◌, ap}
use mathlib.Core.List.{List}
use Prim.Native.Nat.{ℕ}
use lib.ListN.{length}
use Rattle.std.specs.Borrow.{MutBor}
use Rattle.flush.specs.laws.AllLaws.{walk_fits}
use Rattle.flush.specs.laws.StepLaws.{fitting_same}
use Rattle.flush.proofs.flush.Source.write_all.Goals as goal

pub write_from-requires-clause-fitting : goal.write_from-requires-clause-fitting
write_from-requires-clause-fitting c =
    let a = c.args in
    let p = c.requires in
    let d = c.list_dead.ensures in
    let v = c.view-v.ensures in
    let e = rw (v.0, v.1, v.2, v.3) at c.level_at-level.ensures in
    fitting_same _ _ _ _ _ _ _ (d.kept.freed.long ∙ p.long.0) (ap (λ (x : MutBor (List ℕ)). length x.now) d.kept.ids ∙ p.long.2)
    (ap (λ (x : MutBor (List ℕ)). length x.now) d.kept.places ∙ p.long.3)
    (walk_fits _ a.self.lent.slots a.self.xid a.lists.now.done.next _ a.self.tree _ _ _ _ _ _ _ _ _ _ _ e d.listed p.fitting)
