use Rattle.node.specs.laws.base.Bytes.{bytes_known}
use Rattle.tree.specs.laws.upsert.Steps.{gone_some, gone_way, gone_root, leaf_used, on_found, on_alive, on_room, on_way_lem, on_index, on_cuts}
use borrow.Author.Rules.{rules}
use Rattle.tree.proofs.editor.Tree.put_on.Goals as goal

pub touch-requires : goal.touch-requires
touch-requires c =
    let p = c.requires in
    let g = p.gone.0 in
    record { ready = (g.ready, gone_way _ _ _ _ _ _ _ g); root_lt_used = (gone_root _ _ _ _ _ _ _ g, gone_some _ _ _ _ _ _ _ g) }

pub put_in_leaf-t-requires : goal.put_in_leaf-t-requires
put_in_leaf-t-requires c =
    let p = c.requires in
    let g = p.gone.0 in
    let q = c.touch.ensures in
    record { ready = q.ready; place = (leaf_used _ _ _ _ _ _ _ g _ p.gone.1, on_alive _ _ _ _ _ _ _ g _ p.gone.1 _ _ q, on_found _ _ _ _ _ _ _ g _ p.gone.1 _ _ q _ p.found.0, p.found.1); room = on_room _ _ _ _ _ _ _ g _ p.gone.1 _ _ q p.room.0 }

pub index_keys-requires : goal.index_keys-requires
index_keys-requires c =
    let p = c.requires in
    let g = p.gone.0 in
    let q = c.touch.ensures in
    let w = c.put_in_leaf-t in
    record { ready = (w.ensures.ready.0, on_way_lem _ _ _ _ _ _ _ g _ p.gone.1 _ _ q _ _ _ w.ensures.after w.ensures.ready.1); room = on_index _ _ _ _ _ _ _ g _ p.gone.1 _ _ q _ _ _ w.ensures.after w.ensures.ready.1 _ (search (rules, bytes_known)) p.room.0 p.room.1 }

pub cuts-requires : goal.cuts-requires
cuts-requires c =
    let p = c.requires in
    let g = p.gone.0 in
    let q = c.touch.ensures in
    let w = c.put_in_leaf-t in
    let i = c.index_keys.ensures in
    record { ready = i.ready; room = (on_cuts _ _ _ _ _ _ _ g _ p.gone.1 _ _ q _ _ _ w.ensures.after w.ensures.ready.1 _ _ i, search (rules, c.index_keys.auto, p.room.1)) }
