use Rattle.tree.specs.laws.refusal1.Calls.{called_trusts}
use Rattle.std.proofs.Common.{ap}
use mathlib.Core.Bool.{not}
use Rattle.tree.proofs.editor.Tree.range.Goals as goal

pub range_in-requires : goal.range_in-requires
range_in-requires c =
    let a = c.args in
    let e = c.lent_holds.ensures in
    let n = ap not c.in_ok-check.ensures in
    record { trusts = called_trusts a.image.now a.lent a.self _ _ _ e n }
