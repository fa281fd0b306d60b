use Rattle.tree.specs.laws.remove.LeafAloneSteps.{settled_dirty}
use borrow.Author.Rules.{rules}
use Rattle.tree.proofs.still.Standing.settled.Goals as goal

pub returns-then-dirty_at : goal.returns-then-dirty_at
returns-then-dirty_at c = λ q. search (rules, settled_dirty)
