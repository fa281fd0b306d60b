use Rattle.tree.specs.laws.cut.CutNode.{node_used, node_sized, node_cut, node_after, top_fits, child_fits, top_answer}
use Rattle.tree.proofs.editor.Tree.cut_node.Goals as goal

pub fits_at-requires : goal.fits_at-requires
fits_at-requires c =
    let p = c.requires in
    let a = c.args in
    record { sized = (node_sized a.lent a.self _ _ _ _ p.ready.0 p.room, node_used a.lent a.self _ _ _ _ p.ready.0 p.room) }

pub slot_node-node-requires : goal.slot_node-node-requires
slot_node-node-requires c =
    let p = c.requires in let a = c.args in node_sized a.lent a.self _ _ _ _ p.ready.0 p.room

pub cut_root-requires : goal.cut_root-requires
cut_root-requires c =
    let p = c.requires in
    let a = c.args in
    let x = c.cut in
    let v = c.slot_node-node.ensures in
    record { ready = (p.ready.0, p.ready.1); room = (top_fits a.lent _ _ _ c.in-None.is p.room, node_cut a.lent a.self _ _ _ _ p.ready.0 p.room _ c.fits_at.ensures c.if-fits_at.false c.slot_node-node.result v.shape.0 v.shape.2 v.entries _ x.ensures.place _ c.in_ok-found.was _ (v.place (node_used a.lent a.self _ _ _ _ p.ready.0 p.room)).1 x.ensures.start) }

pub returns-in-None : goal.returns-in-None
returns-in-None c =
    let p = c.requires in
    let a = c.args in
    let x = c.cut in
    let v = c.slot_node-node.ensures in
    let w = c.cut_root in
    record { answer = node_after a.lent a.self _ _ _ _ p.ready.0 p.room _ c.fits_at.ensures c.if-fits_at.false c.slot_node-node.result v.shape.0 v.shape.2 v.entries _ x.ensures.place _ c.in_ok-found.was _ _ _ (top_answer a.lent _ _ _ _ _ c.in-None.is w.ensures.answer); left = w.ensures.left }

pub cut_child-requires : goal.cut_child-requires
cut_child-requires c =
    let p = c.requires in
    let a = c.args in
    let x = c.cut in
    let v = c.slot_node-node.ensures in
    record { ready = (p.ready.0, p.ready.1); room = (child_fits a.lent _ _ _ _ c.in-Some.is p.room, node_cut a.lent a.self _ _ _ _ p.ready.0 p.room _ c.fits_at.ensures c.if-fits_at.false c.slot_node-node.result v.shape.0 v.shape.2 v.entries _ x.ensures.place _ c.in_ok-found.was _ (v.place (node_used a.lent a.self _ _ _ _ p.ready.0 p.room)).1 x.ensures.start) }
