use native.Mathlib.Omega.{arith}
use Rattle.tree.specs.laws.slots.Undo.{follows_on}
use Rattle.tree.specs.laws.cut.Asked.{room_slots}
use Rattle.tree.specs.laws.cut.CutAt.{cut_used, cut_sized, cut_first, cut_upto, parted_used, parted_root, top_low, top_done, counted_ready}
use Rattle.std.proofs.Common.{ap}
use mathlib.Core.Bool.{not}
use Rattle.tree.proofs.editor.Tree.cut_root.Goals as goal

pub new_root_holds-holds-requires : goal.new_root_holds-holds-requires
new_root_holds-holds-requires c =
    let p = c.requires in
    let a = c.args in
    record { sized = (cut_sized a.lent a.self _ _ _ _ _ _ p.ready.0 p.room.0 p.room.1, cut_used a.lent a.self _ _ _ _ _ _ p.ready.0 p.room.0 p.room.1, cut_first a.lent a.self _ _ _ _ _ _ p.ready.0 p.room.0 p.room.1) }

pub part-t-requires-clause-used_lt_slots : goal.part-t-requires-clause-used_lt_slots
part-t-requires-clause-used_lt_slots c =
    let p = c.requires in
    let a = c.args in
    (omega (arith, room_slots _ _ _ _ _ c.in_ok-room_for.ensures), record { slot = cut_used a.lent a.self _ _ _ _ _ _ p.ready.0 p.room.0 p.room.1; upto = cut_upto a.lent a.self _ _ _ _ _ _ p.ready.0 p.room.0 p.room.1; start = p.room.1.start })

pub grow_root-top-requires-clause-ready : goal.grow_root-top-requires-clause-ready
grow_root-top-requires-clause-ready c =
    let p = c.requires in
    let a = c.args in
    let g = c.part-t in
    (g.ensures.ready, omega (arith, room_slots _ _ _ _ _ c.in_ok-room_for.ensures, parted_used a.lent a.self _ _ _ _ _ _ p.ready.0 p.room.0 p.room.1 _ _ _ g.ensures.after))

pub grow_root-top-requires-clause-room : goal.grow_root-top-requires-clause-room
grow_root-top-requires-clause-room c =
    let p = c.requires in
    let a = c.args in
    let g = c.part-t in
    parted_root a.lent a.self _ _ _ _ _ _ p.ready.0 p.room.0 p.room.1 _ _ _ g.ensures.after _ (top_low a.lent a.self _ _ _ _ _ c.new_root_holds-holds.ensures (ap not c.in_ok-check.ensures) (cut_used a.lent a.self _ _ _ _ _ _ p.ready.0 p.room.0 p.room.1)) p.ready.1

pub returns-clause-answer : goal.returns-clause-answer
returns-clause-answer c =
    let a = c.args in
    let g = c.part-t in
    let w = c.grow_root-top in
    top_done a.lent a.self _ _ _ _ _ c.new_root_holds-holds.ensures (ap not c.in_ok-check.ensures) _ c.in_ok-room_for.ensures _ _ _ _ _ _ _ g.ensures.after w.ensures.after c.more_nodes.ensures

pub returns-clause-left : goal.returns-clause-left
returns-clause-left c =
    let p = c.requires in
    let a = c.args in
    let g = c.part-t in
    record { ready = counted_ready _ _ _ _ _ _ _ c.more_nodes.ensures c.grow_root-top.ensures.ready; follows = follows_on _ _ _ _ _ _ _ _ _ _ g.ensures.follows c.grow_root-top.ensures.follows (omega (arith, parted_used a.lent a.self _ _ _ _ _ _ p.ready.0 p.room.0 p.room.1 _ _ _ g.ensures.after)) }
