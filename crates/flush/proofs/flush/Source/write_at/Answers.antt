use Rattle.std.proofs.Common.{arith}
use Rattle.flush.specs.laws.BlockLaws.{at_wrote, at_left, room_freed, room_next}
use borrow.Author.Rules.{rules}
use Rattle.flush.proofs.flush.Source.write_at.Goals as goal

-- by cases, since a push of less has the room too: a wrong program is refused for what it lists
pub push-freed-requires : goal.push-freed-requires
push-freed-requires c = grind (arith, room_freed _ _ _ _ _ _ _ _ _ c.requires.room _ c.live_at-h.ensures _ c.block-old.ensures)

pub overflow_add-lists : goal.overflow_add-lists
overflow_add-lists c =
    let m = room_next _ _ _ _ _ _ _ _ _ c.requires.room _ c.live_at-h.ensures _ _ _ _ _ _ c.id-own.ensures c.takes_id.ensures
    c.then_some-fresh.ensures c.is_some.ensures c.from.ensures in
    search (rules, m)

pub returns-clause-wrote : goal.returns-clause-wrote
returns-clause-wrote c =
    let a = c.args in
    let p = c.requires in
    at_wrote _ _ _ _ _ a.self.tree _ _ _ _ _ _ _ _ _ _ _ a.lists.now.done p.standing p.dirty _ c.live_at-h.ensures _ _ _ _ _ _ _ _ _ _ _ _ _ c.id-own.ensures
    c.takes_id.ensures c.then_some-fresh.ensures c.or-id.ensures c.block_id-oid.ensures c.block-old.ensures c.push-freed.ensures c.pack_at.ensures c.rewrite_with_id.ensures
    c.then_some-number.ensures c.then_some-place.ensures c.push-moved.ensures c.push.ensures c.is_some.ensures c.from.ensures

pub returns-clause-left : goal.returns-clause-left
returns-clause-left c =
    let a = c.args in
    let p = c.requires in
    at_left _ _ _ _ _ a.self.tree _ _ _ _ _ _ _ _ _ _ _ a.lists.now.done p.standing p.dirty _ c.live_at-h.ensures _ _ _ _ _ _ _ _ _ _ _ _ _ c.id-own.ensures
    c.takes_id.ensures c.then_some-fresh.ensures c.or-id.ensures c.block_id-oid.ensures c.block-old.ensures c.push-freed.ensures c.pack_at.ensures c.rewrite_with_id.ensures
    c.then_some-number.ensures c.then_some-place.ensures c.push-moved.ensures c.push.ensures c.is_some.ensures c.from.ensures (search (rules, c.rewrite_with_id.auto))
