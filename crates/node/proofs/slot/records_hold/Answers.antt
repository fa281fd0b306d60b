use Rattle.node.specs.laws.slot.Find.{hold_out, hold_next, hold_within}
use Rattle.node.proofs.slot.records_hold.Goals as goal

pub returns-in_default : goal.returns-in_default
returns-in_default c = hold_out _ _ _ _ _ _ c.loop-i-test.true c.loop-i.invariant.start c.at.ensures c.in_default.is

pub loop-i-preserved : goal.loop-i-preserved
loop-i-preserved c =
    record {
      start = hold_next _ _ _ c.at.ensures _ c.in-Some.is _ c.next-at.ensures _ c.loop-i.invariant.start;
      within = hold_within _ _ _ c.at.ensures _ c.in-Some.is _ c.next-at.ensures;
    }
