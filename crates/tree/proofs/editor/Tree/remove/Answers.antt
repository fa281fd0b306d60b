use mathlib.Core.Path.{refl}
use Rattle.tree.specs.laws.base.Refused.{handed_on}
use Rattle.tree.specs.laws.refusal1.EditCalls.{remove_lent, remove_answer, removed_left, edits_trusts, edits_scratch}
use Rattle.std.proofs.Common.{ap}
use mathlib.Core.Bool.{not}
use Rattle.tree.proofs.editor.Tree.remove.Goals as goal

pub returns-in_err-check : goal.returns-in_err-check
returns-in_err-check c =
    let args = c.args in
    let edit-holds = c.edit_holds-holds in
    rw (handed_on c.from_residual.result _ c.from_residual.ensures.1, c.in_err-check.ensures.1)
    record { answer = remove_lent args.image.now args.lent args.self _ _ _ _ edit-holds.ensures _ (ap not c.in_err-check.ensures.0); left = (refl, refl) }

pub remove_down-requires : goal.remove_down-requires
remove_down-requires c =
    let args = c.args in
    let edit-holds = c.edit_holds-holds in
    record { trusts = edits_trusts args.image.now args.lent args.self _ _ _ _ edit-holds.ensures (ap not c.in_ok-check.ensures); room = edits_scratch args.image.now args.lent args.self _ _ _ _ edit-holds.ensures (ap not c.in_ok-check.ensures) }

pub returns : goal.returns
returns c =
    let args = c.args in
    let edit-holds = c.edit_holds-holds in
    let down = c.remove_down in
    record { answer = remove_answer args.image.now args.lent args.self _ _ _ _ edit-holds.ensures _ _ (ap not c.in_ok-check.ensures) down.ensures.answer; left = removed_left args.image.now args.lent args.self _ _ _ _ edit-holds.ensures (ap not c.in_ok-check.ensures) down.new.heads down.new.bytes down.result down.ensures.left }
