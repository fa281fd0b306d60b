use Rattle.tree.specs.laws.omap.Calls.{drop_trusts}
use Rattle.tree.proofs.editor.Tree.put.Goals as goal

pub upserted-requires-clause-trusts : goal.upserted-requires-clause-trusts
upserted-requires-clause-trusts c =
    let a = c.args in
    let d = c.dropped.ensures in
    drop_trusts a.image.now a.lent a.self _ _ c.requires.trusts _ _ _ _ _ c.in_ok-t.was d.left.ready d.answer
