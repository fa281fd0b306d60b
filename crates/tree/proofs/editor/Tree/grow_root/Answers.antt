use mathlib.Core.Path.{refl}
use Rattle.tree.specs.laws.cut.GrowRoot.{grow_within, grow_first, grow_second, grow_state, grow_follows}
use borrow.Author.Rules.{rules}
use Rattle.tree.proofs.editor.Tree.grow_root.Goals as goal

pub add_root-t-requires : goal.add_root-t-requires
add_root-t-requires c =
    let p = c.requires in
    let a = c.args in
    record { ready_2 = p.ready.0; used_lt_slots = (p.ready.1, grow_within _ _ _ _ a.self _ _ p.room, p.room.level) }

pub link_child-requires : goal.link_child-requires
link_child-requires c =
    let p = c.requires in
    let a = c.args in
    let g = c.add_root-t in
    record { ready = g.ensures.ready; room = grow_first _ a.lent.slots _ _ _ a.self _ _ _ _ _ p.room g.ensures.after _ refl }

pub link_child-requires-2 : goal.link_child-requires-2
link_child-requires-2 c =
    let p = c.requires in
    let a = c.args in
    let g = c.add_root-t in
    let w = c.link_child in
    record { ready = w.ensures.ready; room = grow_second _ a.lent.slots _ _ _ a.self _ _ _ _ _ p.room g.ensures.after _ _ w.ensures _ (search rules) }

pub returns : goal.returns
returns c =
    let p = c.requires in
    let a = c.args in
    let g = c.add_root-t in
    let w = c.link_child in
    let v = c.link_child-2 in
    record { after = grow_state _ a.lent.slots _ _ _ a.self _ _ _ _ _ p.room g.ensures.after _ _ w.ensures _ _ v.ensures; ready = v.ensures.ready; follows = grow_follows _ a.lent.slots _ _ _ a.self _ _ _ _ _ p.room g.ensures.after _ _ w.ensures _ _ v.ensures g.ensures.follows }
