use borrow.Author.Rules.{rules}
use mathlib.Core.Path.{refl}
use native.Mathlib.Omega.{arith}
use Rattle.tree.specs.laws.slots.Writers.{slot_entry, slot_wrote}
use Rattle.tree.proofs.writers.change_at.Goals as goal

pub make-extent-requires-clause-place : goal.make-extent-requires-clause-place
make-extent-requires-clause-place g c =
    let p = c.requires in
    slot_entry _ _ _ _ _ _ p.ready p.place _ _ c.among.ensures c.live_at-h.ensures _ (omega arith)

pub returns : goal.returns
returns g c =
    let p = c.requires in
    let q = c.make-extent.ensures in
    slot_wrote _ _ _ _ _ _ p.ready p.place _ _ c.among.ensures c.live_at-h.ensures _ (omega arith) _ _ _ _ (g.C.Change.leaves c.args.change) _ _ _ p.room q.used q.taken q.entries (search rules) refl c.recount.ensures
