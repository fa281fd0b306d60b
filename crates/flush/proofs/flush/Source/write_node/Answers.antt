use Rattle.flush.specs.laws.StepLaws.{block_few, block_inside, node_dirty, node_wrote, node_room}
use Rattle.flush.proofs.flush.Source.write_node.Goals as goal

pub write_at-requires-clause-dirty : goal.write_at-requires-clause-dirty
write_at-requires-clause-dirty c = node_dirty _ _ _ _ _ c.requires.alive _ c.live_at-h.ensures c.if-h-ne1.false

pub write_at-requires-clause-inside : goal.write_at-requires-clause-inside
write_at-requires-clause-inside c =
    let p = c.requires in
    let x = c.alloc.ensures in
    let i = c.in-Some.is in
    (block_inside _ _ _ p.chunks _ _ _ x.answer i, block_few _ _ _ p.chunks _ _ _ x.answer i)

pub write_at-requires-clause-room : goal.write_at-requires-clause-room
write_at-requires-clause-room c =
    let a = c.args in
    let p = c.requires in
    node_room _ _ _ a.self.tree _ _ _ _ _ _ _ a.lists.now.done p.alive _ c.live_at-h.ensures c.if-h-ne1.false _ c.alloc.ensures.answer p.standing.same _ _ c.in-Some.is p.fitting

pub returns-clause-wrote : goal.returns-clause-wrote
returns-clause-wrote c =
    let a = c.args in
    let p = c.requires in
    let x = c.alloc.ensures in
    node_wrote _ _ _ a.self.tree _ _ _ _ _ _ _ a.lists.now.done p.alive _ c.live_at-h.ensures c.if-h-ne1.false _ x.answer p.standing.same _ _ c.in-Some.is _ _ _ _ _ _ _ x.after c.write_at.ensures.wrote
