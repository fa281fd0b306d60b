use Rattle.tree.specs.laws.upsert.Call.{in_fits, upserted_trusts}
use Rattle.tree.specs.laws.refusal1.EditCalls.{stays_trusts, edited_called}
use borrow.Author.Rules.{rules}
use Rattle.tree.proofs.editor.Tree.upsert_in.Goals as goal

pub returns-clause-left : goal.returns-clause-left
returns-clause-left c =
    let (h, b, h', b', s, p, u) = c.undone.ensures in
    let t = stays_trusts c.args.image.now c.args.lent c.args.self _ _ h.now b.now c.requires.trusts s in
    let f = in_fits c.args.image.now c.args.lent c.args.self _ _ _ _ _ (c.entry_fits.ensures _ _ _) c.in_ok-check.ensures h.now b.now s in
    edited_called c.args.lent c.args.self _ _ h'.now b'.now _ _ _ _ u
    (upserted_trusts c.args.image.now c.args.lent c.args.self h.now b.now c.args.key.now _ t f _ _ _ (search rules) (search rules))
