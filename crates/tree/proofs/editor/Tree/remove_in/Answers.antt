use Rattle.tree.specs.laws.remove.LeafAloneSteps.{yes_left}
use Rattle.tree.proofs.editor.Tree.remove_in.Goals as goal

pub returns-in-Some-clause-left : goal.returns-in-Some-clause-left
returns-in-Some-clause-left c =
    let a = c.args in yes_left a.image.now _ _ _ _ c.requires.trusts _ _ _ _ c.remove_still.ensures _ c.in-Some.is
