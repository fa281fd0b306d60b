use Rattle.flush.specs.laws.ListLaws.{push_one}
use Rattle.flush.proofs.flush.push.Goals as goal

pub returns : goal.returns
returns c = push_one _ _ _ _ c.in-Some.is c.requires
