use Rattle.tree.specs.laws.load.LoadedWay.{walked_end}
use Rattle.tree.proofs.view.View.way_loaded.Goals as goal

pub returns : goal.returns
returns c = walked_end _ _ _ _ _ _ _ _ _ c.loop-k-test.false c.loop-k.invariant.onward _ c.push-2.ensures.items
