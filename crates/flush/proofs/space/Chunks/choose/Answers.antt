use Rattle.flush.specs.laws.SpaceSteps.{choose_found}
use Rattle.flush.proofs.space.Chunks.choose.Goals as goal

pub returns-in-Some : goal.returns-in-Some
returns-in-Some c =
    choose_found _ _ _ _ _ _ _ c.args.self.held c.loop-c-test.true c.free_in.ensures c.in-Some.is c.loop-c.invariant
