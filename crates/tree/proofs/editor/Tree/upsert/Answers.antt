use Rattle.tree.specs.laws.refusal1.EditCalls.{edits_trusts, upsert_lent, upsert_answer}
use mathlib.Core.Path.{refl}
use Rattle.tree.specs.laws.base.Refused.{handed_on}
use Rattle.std.proofs.Common.{ap}
use mathlib.Core.Bool.{not}
use Rattle.tree.proofs.editor.Tree.upsert.Goals as goal

pub returns-in_err-check : goal.returns-in_err-check
returns-in_err-check c =
    rw (handed_on c.from_residual.result _ c.from_residual.ensures.1, c.in_err-check.ensures.1)
    record { answer = upsert_lent _ _ _ _ _ _ _ c.edit_holds-holds.ensures _ _ (ap not c.in_err-check.ensures.0); left = (refl, refl) }

pub upsert_in-requires-clause-trusts : goal.upsert_in-requires-clause-trusts
upsert_in-requires-clause-trusts c = edits_trusts _ _ _ _ _ _ _ c.edit_holds-holds.ensures (ap not c.in_ok-check.ensures)

pub returns-clause-answer : goal.returns-clause-answer
returns-clause-answer c = upsert_answer _ _ _ _ _ _ _ c.edit_holds-holds.ensures _ _ _ (ap not c.in_ok-check.ensures) c.upsert_in.ensures.answer
