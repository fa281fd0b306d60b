use Rattle.tree.specs.laws.remove.Call.{call_answer, call_done}
use Rattle.tree.specs.laws.refusal1.EditCalls.{stays_trusts, removed_undone, removed_called}
use borrow.Author.Rules.{rules}
use Rattle.std.proofs.Common.{◌∙◌}
use Rattle.tree.proofs.editor.Tree.remove_down.Goals as goal

pub returns-clause-answer : goal.returns-clause-answer
returns-clause-answer c =
    let (h, b, h', b', s, p, u) = c.undone.ensures in
    removed_undone c.args.lent c.args.self _ _ h'.now b'.now _ _ _ u
    ∙ search rules
    ∙ call_answer _ _ c.args.self _ _ _ c.requires.trusts _ c.keyed.ensures c.in_ok-check.ensures h.now b.now s.0

pub returns-clause-left : goal.returns-clause-left
returns-clause-left c =
    let (h, b, h', b', s, p, u) = c.undone.ensures in
    let t = stays_trusts c.args.image.now c.args.lent c.args.self _ _ h.now b.now c.requires.trusts s in
    removed_called c.args.lent c.args.self _ _ h'.now b'.now _ _ _ _ u
    (λ v there z. call_done c.args.image.now c.args.lent c.args.self h.now b.now c.args.key.now t _ _ _ (search rules) v there z (search rules))
