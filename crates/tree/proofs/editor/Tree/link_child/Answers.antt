use Rattle.tree.specs.laws.cut.LinkChild.{child_slot, child_index, child_alive, child_room, child_short, child_held, child_linked}
use mathlib.Core.Path.{refl}
use Rattle.tree.proofs.editor.Tree.link_child.Goals as goal

pub spot_of-spot-requires : goal.spot_of-spot-requires
spot_of-spot-requires c =
    let p = c.requires in
    let a = c.args in
    record { n_lt_used = (child_slot _ _ _ _ _ _ a.self _ _ p.ready p.room, child_index _ _ _ _ _ _ a.self _ _ p.ready p.room) }

pub insert_at-requires : goal.insert_at-requires
insert_at-requires c =
    let p = c.requires in
    let a = c.args in
    let k = c.first_key-len.ensures.key in
    record { ready = p.ready; place = rw c.spot_of-spot.ensures (record { slot = child_slot _ _ _ _ _ _ a.self _ _ p.ready p.room; upto = child_index _ _ _ _ _ _ a.self _ _ p.ready p.room; start = refl }, child_alive _ _ _ _ _ _ a.self _ _ p.ready p.room); room = rw c.spot_of-spot.ensures (child_room _ _ _ _ _ _ a.self _ _ p.ready p.room _ k); stored = (child_short _ _ _ _ _ _ a.self _ _ p.ready p.room _ k, child_held _ _ _ _ _ _ a.self _ _ p.ready p.room _ k) }

pub returns : goal.returns
returns c =
    let p = c.requires in let a = c.args in let k = c.first_key-len.ensures.key in let w = c.insert_at in child_linked _ _ _ _ _ _ a.self _ _ p.ready p.room _ k _ _ w.auto.heads w.auto.bytes (rw c.spot_of-spot.ensures at w.ensures.put) w.ensures.follows
