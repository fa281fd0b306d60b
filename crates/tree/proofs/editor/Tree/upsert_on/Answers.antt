use Rattle.tree.specs.laws.upsert.Steps.{gone_some, gone_within, gone_leaf, gone_words, gone_short, on_small, on_large, on_put}
use Rattle.tree.specs.laws.upsert.PutInLeaf.{lent_means, lent_held}
use Rattle.std.proofs.Common.{◌∙◌, ap, not, length, arith, ◌+◌, ◌≤◌}
use Rattle.node.specs.Entry.{value_length}
use Rattle.tree.specs.Answers.{lent_value}
use mathlib.Core.Path.{refl}
use borrow.Author.Rules.{rules}
use Rattle.tree.proofs.editor.Tree.upsert_on.Goals as goal

pub overflow_sub-n : goal.overflow_sub-n
overflow_sub-n c = let m = gone_some _ _ _ _ _ _ _ c.requires.gone in search (rules, m)

pub bounds-way-way : goal.bounds-way-way
bounds-way-way c = let m = gone_within _ _ _ _ _ _ _ c.requires.gone in search (rules, m)

pub found_at-found-requires : goal.found_at-found-requires
found_at-found-requires c = gone_leaf _ _ _ _ _ _ _ c.requires.gone

pub live_at-h-requires : goal.live_at-h-requires
live_at-h-requires c = gone_words _ _ _ _ _ _ _ c.requires.gone

pub returns-then-too_large-clause-answer : goal.returns-then-too_large-clause-answer
returns-then-too_large-clause-answer c =
    let g = c.requires.gone in
    let m = lent_means c.args.value c.map_or-value.result c.map_or-value.ensures in
    on_large _ _ _ _ _ _ _ g _ refl _ c.found_at-found.ensures _ c.is_ok-there.ensures.value _ c.room_for_key.ensures (ap not c.in_ok-check.ensures) _ _ _ _ c.live_at-h.ensures c.too_large.ensures c.if-too_large.true (c.len.ensures ∙ ap value_length m) c.large_refusal.ensures

pub returns-clause-answer : goal.returns-clause-answer
returns-clause-answer c =
    let g = c.requires.gone in
    let m = lent_means c.args.value c.map_or-value.result c.map_or-value.ensures in
    on_put _ _ _ _ _ _ _ g _ refl _ c.found_at-found.ensures _ c.is_ok-there.ensures.value _ c.room_for_key.ensures (ap not c.in_ok-check.ensures) _ (rw m at c.put_on.ensures.answer)

pub invariant_of-put : goal.invariant_of-put
invariant_of-put c =
    let g = c.requires.gone in
    let m = lent_means c.args.value c.map_or-value.result c.map_or-value.ensures in
    let k : 4 + length c.args.key.now + value_length (lent_value c.args.value) + 56 ≤ c.args.lent.size =
    on_small _ _ _ _ _ _ _ g _ _ c.too_large.ensures c.if-too_large.false (c.len.ensures ∙ ap value_length m) in
    record { short = gone_short _ _ _ _ _ _ _ g k; held = rw m (lent_held c.args.value (omega (arith, k, g.ready.most))) }
