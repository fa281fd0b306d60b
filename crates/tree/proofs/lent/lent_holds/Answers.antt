use Rattle.std.proofs.Common.{rules, tests, ◌∙◌}
use mathlib.Core.Path.{sym}
use Rattle.tree.specs.laws.refusal1.Ready.{lent_laid, lent_sized}
use Rattle.tree.proofs.lent.lent_holds.Goals.{then-numbers_hold, else-numbers_hold}
use Rattle.tree.proofs.lent.lent_holds.Goals as goal

pub invariant_of-hold_together : goal.invariant_of-hold_together
invariant_of-hold_together c = elim c.if-numbers_hold.branch [
  | then-numbers_hold w ↦
      let laid = lent_laid _ _ _ _ c.numbers_hold.ensures w.if-numbers_hold.true _ _ _ w.room_holds.ensures (sym w.value-is ∙ c.if-room_holds.true) in
      record { laid = laid; sized = lent_sized _ _ _ _ c.numbers_hold.ensures w.if-numbers_hold.true }
  | else-numbers_hold w ↦ search (rules, tests)
]
