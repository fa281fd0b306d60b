use borrow.Author.Rules.{rules}
use Rattle.tree.specs.laws.slots.Copy.{copies}
use Rattle.tree.proofs.undo.copy_slot.Goals as goal

pub returns : goal.returns
returns c = search (rules, copies)
