use borrow.Author.Rules.{rules}
use Rattle.node.specs.laws.pack.Steps.{going_room, going_turn}
use Rattle.node.proofs.pack.put_entries.Goals as goal

pub put_entry-s-requires : goal.put_entry-s-requires
put_entry-s-requires c = search (rules, going_room)

pub loop-preserved : goal.loop-preserved
loop-preserved c = search (rules, going_turn)
