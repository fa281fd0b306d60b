use Rattle.tree.specs.laws.load.Way.{ready_at}
use native.Mathlib.Omega.{arith}
use Rattle.tree.specs.laws.base.Refused.{handed_on}
use Rattle.tree.specs.laws.remove.HandDown.{hand_stops, hand_refused, hand_on, hand_sized, hand_child, hand_apart, hand_root, hand_unfit, hand_count, hand_next}
use borrow.Author.Rules.{rules}
use borrow.Author.Tests.{ltb-true, ltb-false}
use Rattle.std.proofs.Common.{ap, ◌≡◌}
use Prim.Native.Nat.{◌+◌, ◌-◌, ◌<◌}
use mathlib.Core.Bool.{not}
use Rattle.tree.proofs.editor.Tree.hand_down.Goals as goal

pub returns-then-not-has_only_child : goal.returns-then-not-has_only_child
returns-then-not-has_only_child c =
    let args = c.args in
    let loop = c.loop-i in
    let k = loop.invariant.2 in
    let hd : 0 < args.n - loop._i = omega (arith, c.loop-i-test.true) in
    record {
      answer = hand_stops args.image.now args.lent args.self _ _ _ loop.t _ _ (args.n - loop._i) k hd _ c.has_only_child.ensures (ap not c.if-not-has_only_child.true);
      left = record { ready = k.ready; follows = k.follows };
    }

pub returns-in_err-u-clause-answer : goal.returns-in_err-u-clause-answer
returns-in_err-u-clause-answer c =
    let args = c.args in
    let loop = c.loop-i in
    let hd : 0 < args.n - loop._i = omega (arith, c.loop-i-test.true) in
    rw (handed_on c.from_residual.result _ c.from_residual.ensures.1)
    (hand_refused args.image.now args.lent args.self _ _ _ loop.t _ _ (args.n - loop._i) loop.invariant.2 hd _ c.has_only_child.ensures (ap not c.if-not-has_only_child.false) _ _ _ c.load_child.ensures.answer _ c.in_err-u.was)

pub fits-requires : goal.fits-requires
fits-requires c =
    let args = c.args in
    let loop = c.loop-i in
    let hd : 0 < args.n - loop._i = omega (arith, c.loop-i-test.true) in
    let has-only-child = c.has_only_child in
    let load_child_lem = c.load_child in (
      hand_child args.image.now args.lent args.self _ _ _ loop.t _ _ (args.n - loop._i) loop.invariant.2 hd _ has-only-child.ensures (ap not c.if-not-has_only_child.false) _ _ _ load_child_lem.ensures.answer _ _ c.in_ok-u.was,
      hand_sized args.image.now args.lent args.self _ _ _ loop.t _ _ (args.n - loop._i) loop.invariant.2 hd _ has-only-child.ensures (ap not c.if-not-has_only_child.false) _ _ _ load_child_lem.ensures.answer _ _ c.in_ok-u.was,
    )

pub returns-then-not-fits : goal.returns-then-not-fits
returns-then-not-fits c =
    let args = c.args in
    let loop = c.loop-i in
    let hd : 0 < args.n - loop._i = omega (arith, c.loop-i-test.true) in
    let has-only-child = c.has_only_child in
    let load_child_lem = c.load_child in
    let fits = c.fits in
    record { answer = hand_unfit args.image.now args.lent args.self _ _ _ loop.t _ _ (args.n - loop._i) loop.invariant.2 hd _ has-only-child.ensures (ap not c.if-not-has_only_child.false) _ _ _ load_child_lem.ensures.answer _ _ c.in_ok-u.was _ fits.ensures (ap not c.if-not-fits.true); left = record { ready = ready_at _ _ _ _ _ _ _ c.in_ok-u.was load_child_lem.ensures.ready; follows = hand_on args.image.now args.lent args.self _ _ _ loop.t _ _ (args.n - loop._i) loop.invariant.2 hd _ has-only-child.ensures (ap not c.if-not-has_only_child.false) _ _ _ load_child_lem.ensures.answer load_child_lem.ensures.follows } }

pub returns-in_err-check : goal.returns-in_err-check
returns-in_err-check c =
    let args = c.args in
    let loop = c.loop-i in
    let hd : 0 < args.n - loop._i = omega (arith, c.loop-i-test.true) in
    let has-only-child = c.has_only_child in
    let load_child_lem = c.load_child in
    let fits = c.fits in
    rw (handed_on c.from_residual-in_err-check.result _ c.from_residual-in_err-check.ensures.1, c.in_err-check.ensures.1)
    record { answer = hand_count args.image.now args.lent args.self _ _ _ loop.t _ _ (args.n - loop._i) loop.invariant.2 hd _ has-only-child.ensures (ap not c.if-not-has_only_child.false) _ _ _ load_child_lem.ensures.answer _ _ c.in_ok-u.was _ fits.ensures (ap not c.if-not-fits.false) (omega (arith, ltb-false 0 _ c.in_err-check.ensures.0)); left = record { ready = tt; follows = hand_on args.image.now args.lent args.self _ _ _ loop.t _ _ (args.n - loop._i) loop.invariant.2 hd _ has-only-child.ensures (ap not c.if-not-has_only_child.false) _ _ _ load_child_lem.ensures.answer load_child_lem.ensures.follows } }

pub handed_down-t-requires : goal.handed_down-t-requires
handed_down-t-requires c =
    let args = c.args in
    let loop = c.loop-i in
    let hd : 0 < args.n - loop._i = omega (arith, c.loop-i-test.true) in
    let has-only-child = c.has_only_child in
    let load_child_lem = c.load_child in
    record { ready = ready_at _ _ _ _ _ _ _ c.in_ok-u.was load_child_lem.ensures.ready; place = (hand_root args.image.now args.lent args.self _ _ _ loop.t _ _ (args.n - loop._i) loop.invariant.2 hd _ has-only-child.ensures (ap not c.if-not-has_only_child.false) _ _ _ load_child_lem.ensures.answer _ _ c.in_ok-u.was, hand_child args.image.now args.lent args.self _ _ _ loop.t _ _ (args.n - loop._i) loop.invariant.2 hd _ has-only-child.ensures (ap not c.if-not-has_only_child.false) _ _ _ load_child_lem.ensures.answer _ _ c.in_ok-u.was, hand_apart args.image.now args.lent args.self _ _ _ loop.t _ _ (args.n - loop._i) loop.invariant.2 hd _ has-only-child.ensures (ap not c.if-not-has_only_child.false) _ _ _ load_child_lem.ensures.answer _ _ c.in_ok-u.was, omega (arith, ltb-true 0 _ c.in_ok-check.ensures)) }

pub loop-i-preserved : goal.loop-i-preserved
loop-i-preserved c =
    let args = c.args in
    let loop = c.loop-i in
    let hd : 0 < args.n - loop._i = omega (arith, c.loop-i-test.true) in
    let has-only-child = c.has_only_child in
    let load_child_lem = c.load_child in
    let fits = c.fits in
    let handed-down = c.handed_down-t in
    let e : args.n - (loop._i + 1) ≡ args.n - loop._i - 1 = omega arith in (
      search (rules, c.handed_down-t.auto, c.load_child.auto, c.loop-i.invariant),
      search (rules, c.handed_down-t.auto, c.load_child.auto, c.loop-i.invariant),
      rw e (hand_next args.image.now args.lent args.self _ _ _ loop.t _ _ (args.n - loop._i) loop.invariant.2 hd _ has-only-child.ensures (ap not c.if-not-has_only_child.false) _ _ _ load_child_lem.ensures.answer _ _ c.in_ok-u.was _ fits.ensures (ap not c.if-not-fits.false) (λ z. omega (arith, ltb-true 0 _ c.in_ok-check.ensures, z)) load_child_lem.ensures.follows _ _ _ handed-down.ensures),
    )
