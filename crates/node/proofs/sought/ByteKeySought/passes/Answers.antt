use Rattle.std.proofs.Common.{arith, ltb-true}
use Rattle.node.specs.laws.slot.PassByLead.{lead_lies, second_lies, pass_by_first, pass_by_second}
use Rattle.node.proofs.sought.ByteKeySought.passes.Goals as goal

pub lead_at-x-requires : goal.lead_at-x-requires
lead_at-x-requires c = lead_lies _ _ _ c.requires c.args.r.lies (omega arith)

pub returns-then-x-self : goal.returns-then-x-self
returns-then-x-self c =
    let s = c.args.self.now in
    λ t. pass_by_first _ _ _ _ _ _ c.requires s.first_is s.second_is _ (omega arith) c.lead_at-x.ensures (ltb-true _ _ t)

pub lead_at-requires : goal.lead_at-requires
lead_at-requires c = second_lies _ _ _ c.requires c.args.r.lies (omega arith)

pub returns-then-klen-ge16 : goal.returns-then-klen-ge16
returns-then-klen-ge16 c =
    let s = c.args.self.now in
    λ t. pass_by_second _ _ _ _ _ _ c.requires s.first_is s.second_is _ _ (omega arith) c.lead_at-x.ensures c.if-x-self.false
    c.lead_at.ensures (ltb-true _ _ t)
