use Rattle.std.proofs.Common.{◌∙◌, arith}
use Rattle.node.specs.laws.order.Leading.{lead_turn, byte_cmp, byte_turn}
use Rattle.node.proofs.lead.byte_compare.Goals as goal

pub loop-k-preserved : goal.loop-k-preserved
loop-k-preserved c =
    lead_turn _ _ _ _ c.loop-k.invariant _ _ c.lead_at-x.ensures c.lead_at-y.ensures _ (omega arith) (omega arith) c.if-x-y.false

pub returns-then-a-i : goal.returns-then-a-i
returns-then-a-i c = c.cmp-then-a-i.ensures ∙ byte_cmp _ _ _ _ c.loop-i.invariant (omega arith) c.if-a-i.true

pub loop-i-preserved : goal.loop-i-preserved
loop-i-preserved c = byte_turn _ _ _ _ c.loop-i.invariant (omega arith) c.if-a-i.false
