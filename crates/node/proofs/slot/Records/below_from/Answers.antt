use Rattle.std.proofs.Common.{◌∙◌}
use Rattle.node.specs.laws.slot.Passed.{found_here, found_above}
use Rattle.node.proofs.slot.Records.below_from.Goals as goal

pub returns-then-is_eq : goal.returns-then-is_eq
returns-then-is_eq g c =
    let i = c.loop-i.invariant in
    let s = c.in-Some.ensures.steps in
    let w = rw i.same at s.within in
    let p = s.start ∙ rw i.same at c.loop-i.i-iterator.start in
    let k = rw i.same at s.slot in
    rw s.index (found_here _ _ _ _ _ _ w p _ (rw k at c.compare-c.ensures) _ _ c.is_lt.ensures c.if-not-is_lt.true c.is_eq.ensures i.place i.there c.if-is_eq.true)

pub returns-then-not-is_lt : goal.returns-then-not-is_lt
returns-then-not-is_lt g c =
    let i = c.loop-i.invariant in
    let s = c.in-Some.ensures.steps in
    let w = rw i.same at s.within in
    let p = s.start ∙ rw i.same at c.loop-i.i-iterator.start in
    let k = rw i.same at s.slot in
    rw s.index (found_above _ _ _ _ _ _ w p _ (rw k at c.compare-c.ensures) _ _ c.is_lt.ensures c.if-not-is_lt.true c.is_eq.ensures i.place i.there c.if-is_eq.false)
