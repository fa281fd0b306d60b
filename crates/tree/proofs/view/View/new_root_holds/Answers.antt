use Rattle.tree.specs.laws.cut.NewRoot.{root_deep, left_small, right_small, root_sums}
use borrow.Author.Rules.{rules}
use Rattle.tree.proofs.view.View.new_root_holds.Goals as goal

ruleset laws = (rules, root_deep, left_small, right_small, root_sums)

pub fits_two-requires : goal.fits_two-requires
fits_two-requires c = search laws
