use Rattle.tree.specs.laws.refusal1.Links.{body_high, body_empty, body_not, body_sum, body_count, body_place}
use borrow.Author.Rules.{rules}
use Rattle.tree.proofs.hold.Slots.body_holds.Goals as goal

ruleset laws = (rules, body_high, body_empty, body_not, body_sum, body_count, body_place)

pub returns-then-h-gt-MAX_DEPTH : goal.returns-then-h-gt-MAX_DEPTH
returns-then-h-gt-MAX_DEPTH c = search laws

pub returns-then-not-count_holds : goal.returns-then-not-count_holds
returns-then-not-count_holds c = search laws

pub place_holds-requires : goal.place_holds-requires
place_holds-requires c = search laws

pub returns-in-None : goal.returns-in-None
returns-in-None c = search laws

pub returns-in-Some : goal.returns-in-Some
returns-in-Some c = search laws
