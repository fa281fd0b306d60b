use Rattle.tree.specs.laws.remove.Drops.{drop_index, drop_upto, drop_done}
use mathlib.Core.Path.{refl}
use borrow.Author.Rules.{rules}
use Rattle.tree.proofs.editor.Tree.drop_node.Goals as goal

ruleset laws = (rules, drop_upto)

pub spot_of-spot-requires : goal.spot_of-spot-requires
spot_of-spot-requires c = search laws

pub remove_at-requires : goal.remove_at-requires
remove_at-requires c =
    let pre = c.requires in
    let args = c.args in
    let mark-dead = c.mark_dead in
    record { ready = mark-dead.ensures.ready; place = rw c.spot_of-spot.ensures (record { slot = pre.place.0; index = drop_index _ _ _ _ _ args.self _ _ _ _ pre.place.0 pre.place.2 mark-dead.ensures; start = refl }) }

pub returns : goal.returns
returns c =
    let pre = c.requires in
    let args = c.args in
    let w = c.remove_at in
    drop_done _ _ _ _ _ args.self _ _ _ _ pre.place.0 pre.place.2 c.mark_dead.ensures _ _ w.auto.heads w.auto.bytes (rw c.spot_of-spot.ensures at w.ensures.put) w.ensures.follows
