use Rattle.tree.specs.laws.refusal1.EditCalls.{stays_trusts, edited_undone, edited_called}
use Rattle.tree.specs.laws.omap.Calls.{put_argument, is_omap_lem, put_in_answer, put_trusts}
use Rattle.tree.specs.laws.omap.Keys.{pair_long, value_is, value_long}
use borrow.Author.Rules.{rules}
use Rattle.std.proofs.Common.{◌∙◌}
use Rattle.tree.proofs.editor.Tree.omap_put_in.Goals as goal

pub returns-in_err-check-clause-answer : goal.returns-in_err-check-clause-answer
returns-in_err-check-clause-answer c =
    let a = put_argument c.args.image.now c.args.lent c.args.self c.args.heads.now c.args.bytes.now _ c.is_omap.ensures in search (rules, a)

pub undone-requires-clause-callable : goal.undone-requires-clause-callable
undone-requires-clause-callable c =
    let f = is_omap_lem c.args.self _ c.is_omap.ensures c.in_ok-check.ensures in search (rules, stays_trusts, f)

pub returns-clause-answer : goal.returns-clause-answer
returns-clause-answer c =
    let (h, b, h', b', s, p, u) = c.undone.ensures in
    edited_undone c.args.lent c.args.self _ _ h'.now b'.now _ _ _ u
    ∙ search rules
    ∙ put_in_answer _ c.args.lent c.args.self _ _ _ c.is_omap.ensures c.in_ok-check.ensures h.now b.now s.0 _ _ _ _ _ _ c.pair_key-key.ensures (value_is _ _ _ _ c.put_field.ensures c.put_field-2.ensures)

pub returns-clause-left : goal.returns-clause-left
returns-clause-left c =
    let (h, b, h', b', s, p, u) = c.undone.ensures in
    let t = stays_trusts c.args.image.now c.args.lent c.args.self _ _ h.now b.now c.requires.trusts s in
    let f = is_omap_lem c.args.self _ c.is_omap.ensures c.in_ok-check.ensures in
    edited_called c.args.lent c.args.self _ _ h'.now b'.now _ _ _ _ u
    (λ v z. put_trusts c.args.image.now c.args.lent c.args.self h.now b.now t c.args.id _ v _ _ z (search rules) _ _ (f _ _ _) (pair_long _ _ _ c.pair_key-key.ensures) (value_long _ _ _ _ c.put_field.ensures c.put_field-2.ensures) (search rules))
