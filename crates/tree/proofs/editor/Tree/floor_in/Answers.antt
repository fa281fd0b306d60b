use Rattle.tree.specs.laws.lookup.LoadedCalls.{spot_answer, floor_left}
use Rattle.tree.proofs.editor.Tree.floor_in.Goals as goal

pub returns-in-Some-clause-left : goal.returns-in-Some-clause-left
returns-in-Some-clause-left c =
    let a = c.args in
    let w = c.copy_at.ensures in
    floor_left a.image.now a.lent a.self _ _ c.requires.trusts _ _ _ _ (spot_answer a.image.now a.lent a.self _ _ c.requires.trusts _ _ c.in-Some.ensures _ _ w.answer) w.ready
