use Rattle.std.proofs.Common.{ltb-true}
use Rattle.node.specs.laws.slot.Id.{below_by_id}
use Rattle.node.proofs.sought.PairKeySought.passes.Goals as goal

pub returns-then-klen-eq16-clause-below : goal.returns-then-klen-eq16-clause-below
returns-then-klen-eq16-clause-below c =
    λ t. below_by_id _ _ _ c.args.r.lies c.requires _ _ _ c.if-klen-eq16.true c.field_at.ensures.value c.args.self.now.id_is (ltb-true _ _ t)
