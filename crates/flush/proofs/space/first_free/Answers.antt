use borrow.Author.Rules.{rules}
use Rattle.flush.specs.laws.SpaceSteps.{first_start, first_one, first_next, first_last, first_end}
use Rattle.flush.proofs.space.first_free.Goals as goal

ruleset laws = (rules, first_start, first_one, first_next, first_last, first_end)

pub returns-then-z-lt8 : goal.returns-then-z-lt8
returns-then-z-lt8 c = search laws

pub returns-else-z-lt8 : goal.returns-else-z-lt8
returns-else-z-lt8 c = search laws
