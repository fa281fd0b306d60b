use Rattle.tree.specs.laws.refusal1.Pass.{slots_start, slots_end, slots_no, slots_next}
use borrow.Author.Rules.{rules}
use Rattle.tree.proofs.hold.Slots.hold_slots.Goals as goal

ruleset laws = (rules, slots_start, slots_end, slots_no, slots_next)

pub loop-n-preserved : goal.loop-n-preserved
loop-n-preserved c = search laws

pub returns : goal.returns
returns c = search laws

pub returns-then-not-hold_slot : goal.returns-then-not-hold_slot
returns-then-not-hold_slot c = search laws
