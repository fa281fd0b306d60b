use Rattle.tree.specs.laws.cut.Asked.{count_refused, slots_checked}
use Rattle.tree.proofs.editor.Tree.room_for.Goals as goal

pub returns-in_err-check : goal.returns-in_err-check
returns-in_err-check c =
    count_refused _ _ _ _ c.requires.2 c.from_residual.result _ c.from_residual.ensures.1 c.in_err-check.ensures.1 c.in_err-check.ensures.0

pub returns : goal.returns
returns c = slots_checked _ _ _ _ c.requires.2 c.in_ok-check.ensures c.check-2.result c.check-2.ensures
