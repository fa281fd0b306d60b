use borrow.Author.Rules.{rules}
use Rattle.node.specs.laws.fit.Cut.{walk_at, walk_room}
use Rattle.node.proofs.cut.Whole.left.Goals as goal

pub further-requires-clause-at : goal.further-requires-clause-at
further-requires-clause-at c = search (rules, walk_at)

pub further-requires-clause-room : goal.further-requires-clause-room
further-requires-clause-room c = search (rules, walk_room)
