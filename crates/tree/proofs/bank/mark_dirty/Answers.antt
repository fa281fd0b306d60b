use Rattle.tree.specs.State.{marked_dirty}
use mathlib.Core.Path.{refl}
use native.Mathlib.Omega.{arith}
use Rattle.tree.specs.laws.slots.OneSlot.{dirty_wrote}
use Rattle.tree.specs.laws.slots.Undo.{saved_ready, saved_put_of, saved_follows}
use Rattle.tree.proofs.bank.mark_dirty.Goals as goal

pub returns : goal.returns
returns c =
    let p = c.requires in
    let s = c.save in
    let w = dirty_wrote _ _ _ _ _ _ _ (saved_ready _ _ _ _ _ _ _ _ s.ensures p.ready s.auto.heads s.auto.bytes) p.n_lt_used _ c.load-h.ensures c.store.ensures in
    record { put = saved_put_of _ _ _ _ _ _ _ _ s.ensures _ _ _ w marked_dirty (omega (arith, p.ready.within, p.n_lt_used)) refl; follows = saved_follows _ _ _ _ _ _ _ _ s.ensures _ _ _ w p.n_lt_used p.ready.within }
