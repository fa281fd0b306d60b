use Rattle.std.proofs.Common.{rules, tests, arith}
use Rattle.tree.specs.laws.refusal1.Lent.{size_least}
use Rattle.tree.proofs.lent.sizes_hold.Goals.{then-is_size, else-is_size}
use Rattle.tree.proofs.lent.sizes_hold.Goals as goal

pub nonzero_rem-image : goal.nonzero_rem-image
nonzero_rem-image c = omega (arith, size_least _ _ c.is_size.ensures c.if-is_size.true)

pub nonzero_div-image : goal.nonzero_div-image
nonzero_div-image c = elim c.if-is_size.branch [
  | then-is_size w ↦ omega (arith, size_least _ _ c.is_size.ensures w.if-is_size.true)
  | else-is_size w ↦ search (rules, tests)
]
