use mathlib.Core.Path.{refl}
use Rattle.tree.specs.laws.cut.AddRoot.{root_state, root_ready, root_follows}
use borrow.Author.Rules.{rules}
use Rattle.tree.proofs.editor.Tree.add_root.Goals as goal

pub returns : goal.returns
returns c =
    let p = c.requires in
    let a = c.args in
    let s = c.save in
    let l = c.load-h.ensures in
    let u = c.store.ensures in
    let v = rw (c.with_id.ensures, c.with_block.ensures) at c.store-2.ensures in
    record { after = root_state _ _ _ a.self _ _ _ _ _ p.ready_2 p.used_lt_slots.1 s.ensures s.auto.heads s.auto.bytes l p.used_lt_slots.0 _ _ _ u v refl; ready = root_ready _ _ _ a.self _ _ _ _ _ p.ready_2 p.used_lt_slots.1 s.ensures s.auto.heads s.auto.bytes l p.used_lt_slots.0 _ _ _ u v refl (search rules); follows = root_follows _ _ _ a.self _ _ _ _ _ p.ready_2 p.used_lt_slots.1 s.ensures s.auto.heads s.auto.bytes l p.used_lt_slots.0 _ _ _ u v refl }
