use Rattle.tree.specs.laws.refusal1.Pass.{together_past, together_dead, together_is, together_few}
use borrow.Author.Rules.{rules}
use Rattle.tree.proofs.hold.Slots.hold_together.Goals as goal

ruleset laws = (rules, together_past, together_dead, together_is, together_few)

pub returns-then-self-root : goal.returns-then-self-root
returns-then-self-root c = search laws

pub returns-then-is_dead : goal.returns-then-is_dead
returns-then-is_dead c = search laws

pub returns : goal.returns
returns c =
    together_is _ _ _ _ c.if-self-root.false _ c.load-h.ensures _ c.is_dead.ensures c.if-is_dead.false 4096 (search laws) _ _ c.hold_slots.ensures
