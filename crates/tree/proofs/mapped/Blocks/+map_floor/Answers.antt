use Rattle.tree.specs.laws.load.MapFloor.{floor}
use borrow.Author.Rules.{rules}
use Rattle.tree.proofs.mapped.Blocks.+map_floor.Goals as goal

pub returns-in-None : goal.returns-in-None
returns-in-None t c = search (rules, floor, c.in_ok-c.was, c.in_ok-m.was)
