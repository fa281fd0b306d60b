use native.Mathlib.Omega.{arith}
use Rattle.tree.specs.laws.slots.Undo.{follows_on}
use Rattle.tree.specs.laws.cut.Asked.{room_count, room_slots}
use Rattle.tree.specs.laws.cut.CutAt.{cut_used, cut_upto, parted_used, parted_count_same, parted_child, child_parent, child_next, child_done, counted_ready}
use Rattle.tree.proofs.editor.Tree.cut_child.Goals as goal

pub part-t-requires : goal.part-t-requires
part-t-requires c =
    let p = c.requires in
    let a = c.args in
    record { ready_2 = p.ready.0; used_lt_slots = (omega (arith, room_slots _ _ _ _ _ c.in_ok-room_for.ensures), record { slot = cut_used a.lent a.self _ _ _ _ _ _ p.ready.0 p.room.0 p.room.1; upto = cut_upto a.lent a.self _ _ _ _ _ _ p.ready.0 p.room.0 p.room.1; start = p.room.1.start }) }

pub overflow_add-up : goal.overflow_add-up
overflow_add-up c =
    let p = c.requires in let a = c.args in omega (arith, child_next a.lent a.self _ _ a.up _ _ a.spot.at p.ready.0 p.room.0 p.room.1)

pub link_child-requires : goal.link_child-requires
link_child-requires c =
    let p = c.requires in
    let a = c.args in
    let g = c.part-t in
    record { ready = g.ensures.ready; room = parted_child a.lent a.self _ _ _ _ _ _ p.ready.0 p.room.0 p.room.1 _ _ _ g.ensures.after _ _ (child_parent a.lent a.self _ _ a.up _ _ a.spot.at p.room.0 p.room.1) p.ready.1 }

pub more_nodes-requires : goal.more_nodes-requires
more_nodes-requires c =
    let p = c.requires in let a = c.args in let g = c.part-t in omega (arith, room_count _ _ _ _ _ c.in_ok-room_for.ensures, parted_count_same a.lent a.self _ _ _ _ _ _ p.ready.0 p.room.0 p.room.1 _ _ _ g.ensures.after)

pub returns : goal.returns
returns c =
    let p = c.requires in
    let a = c.args in
    let g = c.part-t in
    let w = c.link_child in
    let m = c.more_nodes.ensures in
    record { answer = child_done a.lent a.self _ _ a.up _ _ a.spot.at _ c.in_ok-room_for.ensures _ _ _ _ _ _ g.ensures.after w.ensures m; left = record { ready = counted_ready _ _ _ _ _ _ _ m w.ensures.ready; follows = follows_on _ _ _ _ _ _ _ _ _ _ g.ensures.follows w.ensures.follows (omega (arith, parted_used a.lent a.self _ _ _ _ _ _ p.ready.0 p.room.0 p.room.1 _ _ _ g.ensures.after)) } }
