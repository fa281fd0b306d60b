use Rattle.tree.specs.laws.refusal1.EditCalls.{stays_trusts, edited_undone, edited_called}
use Rattle.tree.specs.laws.omap.Calls.{drop_in_answer, drop_trusts}
use borrow.Author.Rules.{rules}
use Rattle.std.proofs.Common.{◌∙◌}
use Rattle.tree.proofs.editor.Tree.omap_drop_in.Goals as goal

pub returns-clause-answer : goal.returns-clause-answer
returns-clause-answer c =
    let (h, b, h', b', s, p, u) = c.undone.ensures in
    edited_undone c.args.lent c.args.self _ _ h'.now b'.now _ _ _ u
    ∙ search rules
    ∙ drop_in_answer _ c.args.lent c.args.self _ _ _ c.is_omap.ensures c.in_ok-check.ensures h.now b.now s.0 c.args.id

pub returns-clause-left : goal.returns-clause-left
returns-clause-left c =
    let (h, b, h', b', s, p, u) = c.undone.ensures in
    let t = stays_trusts c.args.image.now c.args.lent c.args.self _ _ h.now b.now c.requires.trusts s in
    edited_called c.args.lent c.args.self _ _ h'.now b'.now _ _ _ _ u
    (λ v z. drop_trusts c.args.image.now c.args.lent c.args.self h.now b.now t c.args.id _ v _ _ z (search rules) (search rules))
