use Rattle.std.proofs.Common.{arith, refl}
use Rattle.node.specs.laws.slot.Passed.{passed_none, passed_lies, passed_next, bare_next}
use Rattle.node.proofs.led.run_while.Goals as goal

pub loop-i-init : goal.loop-i-init
loop-i-init g c = record { passed = passed_none _ _ _ _ _ refl refl refl; ahead = omega arith }

pub overflow_add-at : goal.overflow_add-at
overflow_add-at g c =
    let e = bare_next _ _ _ _ _ _ _ c.klen-klen.ensures.0 c.mark.ensures.0 c.loop-i.invariant.ahead (c.requires.adds _ _ c.in-Some.ensures) in
    let r = passed_lies _ _ _ _ _ _ _ c.args.records.within c.loop-i-test.true c.loop-i.invariant.passed in
    omega arith

pub overflow_add-at-in-Some : goal.overflow_add-at-in-Some
overflow_add-at-in-Some g c =
    let e = bare_next _ _ _ _ _ _ _ c.klen-klen.ensures.0 c.mark.ensures.0 c.loop-i.invariant.ahead (c.requires.adds _ _ c.in-Some.ensures) in
    let r = passed_lies _ _ _ _ _ _ _ c.args.records.within c.loop-i-test.true c.loop-i.invariant.passed in
    omega arith

pub overflow_add-after : goal.overflow_add-after
overflow_add-after g c =
    let e = bare_next _ _ _ _ _ _ _ c.klen-klen.ensures.0 c.mark.ensures.0 c.loop-i.invariant.ahead (c.requires.adds _ _ c.in-Some.ensures) in
    let r = passed_lies _ _ _ _ _ _ _ c.args.records.within c.loop-i-test.true c.loop-i.invariant.passed in
    omega arith

pub loop-i-preserved : goal.loop-i-preserved
loop-i-preserved g c =
    let e = bare_next _ _ _ _ _ _ _ c.klen-klen.ensures.0 c.mark.ensures.0 c.loop-i.invariant.ahead (c.requires.adds _ _ c.in-Some.ensures) in
    record {
      passed = passed_next _ _ _ _ _ _ _ c.args.records.within c.loop-i-test.true c.loop-i.invariant.passed _ (c.passes.ensures c.if-not-passes.false) e;
      ahead = refl;
    }
