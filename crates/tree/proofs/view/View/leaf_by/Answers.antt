use Rattle.tree.specs.laws.load.LoadedWay.{leading_turn, led_end}
use Rattle.tree.proofs.view.View.leaf_by.Goals as goal

pub loop-i-preserved : goal.loop-i-preserved
loop-i-preserved g c =
    leading_turn _ _ _ _ _ c.loop-i-test.true c.loop-i.invariant _ c.in_ok-t.ensures

pub returns : goal.returns
returns g c =
    led_end _ _ c.args.self.tree _ _ _ _ c.keyed.ensures c.if-not-keyed.false _ c.level_at-level.ensures _ _ c.loop-i-test.false c.loop-i.invariant _ c.then_some.ensures
