use Rattle.tree.specs.laws.lookup.LoadedCalls.{spot_room}
use Rattle.tree.specs.laws.slots.OneSlot.{ready_part, ready_most, ready_few}
use borrow.Author.Rules.{rules}
use Rattle.tree.proofs.view.View.copy_at.Goals as goal

ruleset laws = (rules, spot_room, ready_part, ready_most, ready_few)

pub invariant_of-next : goal.invariant_of-next
invariant_of-next c = record { lies = search laws }
