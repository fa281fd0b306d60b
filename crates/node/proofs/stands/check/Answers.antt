use Rattle.std.proofs.Common.{refl}
use Rattle.node.specs.laws.fit.Pass.{check_start, check_sums, check_at, check_long, check_key, check_out, check_entry, check_fall, check_rise, check_turn}
use Rattle.node.proofs.stands.check.Goals as goal

pub returns-in_err-r : goal.returns-in_err-r
returns-in_err-r c = cc (check_out _ _ _ _ _ _ _ c.loop.invariant.0 _ c.at.ensures c.args.used c.loop-test.true c.in_err-r.was)

pub returns-then-not-entry_holds : goal.returns-then-not-entry_holds
returns-then-not-entry_holds c =
    check_entry _ _ _ _ _ _ _ c.loop.invariant.0 _ c.at.ensures _ c.in_ok-r.was c.loop-test.true _ c.entry_holds.ensures _ c.if-not-entry_holds.true

pub returns-then-not-rises : goal.returns-then-not-rises
returns-then-not-rises c =
    check_fall _ _ _ _ _ _ _ c.loop.invariant.0 (λ k. k.now) c.loop.last c.loop.invariant.1 c.loop-test.true _
    (check_key _ _ _ _ _ _ _ c.loop.invariant.0 _ c.at.ensures _ c.in_ok-r.was _ c.key-key.ensures) _ c.rises.ensures _ c.if-not-rises.true

pub longer-s-requires : goal.longer-s-requires
longer-s-requires c =
    let z = check_sums _ _ _ _ _ _ _ c.loop.invariant.0 _ c.at.ensures _ c.in_ok-r.was c.requires in
    record {
      next = check_at _ _ _ _ _ _ _ c.loop.invariant.0 _ c.at.ensures _ c.in_ok-r.was;
      small = (check_long _ _ _ _ _ _ _ c.loop.invariant.0 _ c.at.ensures _ c.in_ok-r.was c.requires, z.0, z.1);
    }

pub loop-preserved : goal.loop-preserved
loop-preserved c = (
  check_turn _ _ _ _ _ _ _ c.loop.invariant.0 _ c.at.ensures _ c.in_ok-r.was c.loop-test.true _ c.entry_holds.ensures _ c.if-not-entry_holds.false c.longer-s.ensures,
  check_rise _ _ _ _ _ _ _ c.loop.invariant.0 (λ k. k.now) c.loop.last c.loop.invariant.1 c.loop-test.true _
      (check_key _ _ _ _ _ _ _ c.loop.invariant.0 _ c.at.ensures _ c.in_ok-r.was _ c.key-key.ensures) _ c.rises.ensures c.if-not-rises.false,
)

pub loop-init : goal.loop-init
loop-init c =
    let e = c.default-s.ensures in
    (check_start _ _ _ _ _ _ e.0 e.1.0 e.1.1, refl)
