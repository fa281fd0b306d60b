use Rattle.tree.specs.laws.refusal1.Calls.{called_trusts}
use Rattle.std.proofs.Common.{ap}
use mathlib.Core.Bool.{not}
use Rattle.tree.proofs.editor.Tree.floor.Goals as goal

pub floor_down-requires : goal.floor_down-requires
floor_down-requires c =
    let a = c.args in
    record { trusts = called_trusts a.image.now a.lent a.self _ _ _ c.lent_holds.ensures (ap not c.in_ok-check.ensures) }
