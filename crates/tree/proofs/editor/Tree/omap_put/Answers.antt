use borrow.Author.Rules.{rules}
use Rattle.tree.specs.laws.refusal1.EditCalls.{edits_trusts, edits_list, put_lent, put_answer}
use Rattle.tree.specs.laws.omap.Calls.{answer_left}
use Rattle.std.proofs.Common.{ap}
use mathlib.Core.Bool.{not}
use Rattle.tree.proofs.editor.Tree.omap_put.Goals as goal

pub returns-in_err-check-clause-answer : goal.returns-in_err-check-clause-answer
returns-in_err-check-clause-answer c =
    let a = c.args in
    let n = ap not c.in_err-check.ensures.0 in
    let g = put_lent a.image.now a.lent a.self _ _ _ _ c.edit_holds.ensures a.id a.xid a.address a.size n in
    search (rules, g)

pub omap_put_in-requires : goal.omap_put_in-requires
omap_put_in-requires c =
    let a = c.args in
    let e = c.edit_holds.ensures in
    let q = ap not c.in_ok-check.ensures in
    record { trusts = edits_trusts a.image.now a.lent a.self _ _ _ _ e q; room = edits_list a.image.now a.lent a.self _ _ _ _ e q }

pub returns : goal.returns
returns c =
    let a = c.args in
    let e = c.edit_holds.ensures in
    let q = ap not c.in_ok-check.ensures in
    let g = c.omap_put_in in
    record { answer = put_answer a.image.now a.lent a.self _ _ _ _ e _ _ _ _ _ q g.ensures.answer; left = answer_left a.image.now a.lent a.self _ _ _ _ e q _ _ g.result _ g.ensures.answer g.ensures.left }
