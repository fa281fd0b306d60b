use Rattle.node.specs.laws.slot.Passed.{passed_none}
use Rattle.node.proofs.slot.Records.run_marked.Goals as goal

pub returns-then-self-eq0 : goal.returns-then-self-eq0
returns-then-self-eq0 g c = let e = c.default.ensures in passed_none _ _ _ _ _ e.0 e.1.0 e.1.1
