use Rattle.tree.specs.laws.refusal1.Pass.{slot_words_lem, slot_dead, slot_long, slot_body, body_records, slot_leaf, slot_links, laid_words, laid_part, laid_few, laid_small}
use borrow.Author.Rules.{rules}
use Rattle.tree.proofs.hold.Slots.hold_slot.Goals as goal

ruleset laws = (rules, slot_words_lem, slot_dead, slot_long, slot_body, body_records, slot_leaf, slot_links, laid_words, laid_part, laid_few, laid_small)

pub body_holds-requires : goal.body_holds-requires
body_holds-requires c = search laws

pub returns : goal.returns
returns c = search laws

pub returns-then-most-h : goal.returns-then-most-h
returns-then-most-h c = search (rules, slot_long)

pub returns-then-not-body_holds : goal.returns-then-not-body_holds
returns-then-not-body_holds c = search (rules, slot_body)

pub returns-then-h-eq0 : goal.returns-then-h-eq0
returns-then-h-eq0 c = search (rules, slot_leaf)
