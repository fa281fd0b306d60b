use Rattle.tree.specs.laws.refusal1.Calls.{called_trusts}
use Rattle.std.proofs.Common.{ap}
use mathlib.Core.Bool.{not}
use Rattle.tree.proofs.editor.Tree.get.Goals as goal

pub get_down-requires : goal.get_down-requires
get_down-requires c =
    let a = c.args in
    record { trusts = called_trusts a.image.now a.lent a.self _ _ _ c.lent_holds.ensures (ap not c.in_ok-check.ensures) }
