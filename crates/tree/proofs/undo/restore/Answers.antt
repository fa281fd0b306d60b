use borrow.Author.Rules.{rules}
use Rattle.tree.specs.laws.slots.Copy.{restores}
use Rattle.tree.proofs.undo.restore.Goals as goal

pub loop-n-preserved : goal.loop-n-preserved
loop-n-preserved c = search (rules, restores)
