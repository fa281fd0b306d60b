use Rattle.tree.specs.laws.base.Refused.{handed_on}
use Rattle.tree.specs.laws.cut.Asked.{above_none, above_some}
use Rattle.tree.specs.laws.cut.Cuts.{from_fits, from_refused, from_next}
use Rattle.tree.specs.laws.cut.Pairs.{first_step, pairs_end, pair}
use Rattle.tree.specs.internal.Way.{steps_left}
use Prim.Native.Nat.{◌-◌}
use lib.ListN.{length}
use mathlib.Core.Path.{◌≡◌}
use native.Mathlib.Omega.{arith}
use borrow.Author.Rules.{rules}
use Rattle.tree.proofs.editor.Tree.cuts.Goals as goal

pub cut_node-requires-clause-room : goal.cut_node-requires-clause-room
cut_node-requires-clause-room c =
    let a = c.args in
    let i = c.loop-up.invariant in
    let q = pair a.way.now _ i.2 i.0.1 _ _ c.next.ensures.steps _ c.in-Some.is in
    let up = above_some a.way.now (length (steps_left c.loop-up.up-iterator) - 1) _ q.above (omega (arith, q.some)) in
    from_fits a.lent a.self a.way.now _ _ _ c.loop-up.t _ _ i.6 (omega (arith, q.some)) i.2.within _ up _ q.below c.requires.room.0

pub returns-in_err-t-clause-answer : goal.returns-in_err-t-clause-answer
returns-in_err-t-clause-answer c =
    let a = c.args in
    let i = c.loop-up.invariant in
    let q = pair a.way.now _ i.2 i.0.1 _ _ c.next.ensures.steps _ c.in-Some.is in
    let up = above_some a.way.now (length (steps_left c.loop-up.up-iterator) - 1) _ q.above (omega (arith, q.some)) in
    rw (handed_on c.from_residual.result _ c.from_residual.ensures.1)
    (from_refused a.lent a.self a.way.now _ _ _ c.loop-up.t _ _ i.6 (omega (arith, q.some)) i.2.within _ up _ q.below _ _ _ c.cut_node.ensures.answer _ c.in_err-t.was)

pub loop-up-preserved : goal.loop-up-preserved
loop-up-preserved c =
    let a = c.args in
    let i = c.loop-up.invariant in
    let q = pair a.way.now _ i.2 i.0.1 _ _ c.next.ensures.steps _ c.in-Some.is in
    let w = c.cut_node.ensures in
    let up = above_some a.way.now (length (steps_left c.loop-up.up-iterator) - 1) _ q.above (omega (arith, q.some)) in
    let f = from_next a.lent a.self a.way.now _ _ _ c.loop-up.t _ _ i.6 (omega (arith, q.some)) i.2.within _ up _ q.below _ _ _ w.answer _ c.in_ok-t.was c.requires.room.0 w.left.ready w.left.follows in
    (search rules, tt, q.next, search rules, search rules, search rules, rw q.left f)

pub cut_node-requires-in-Some-first-clause-room : goal.cut_node-requires-in-Some-first-clause-room
cut_node-requires-in-Some-first-clause-room c =
    let a = c.args in
    let i = c.loop-up.invariant in
    let o = i.2 in
    let one = pairs_end a.way.now _ o i.0.1 _ _ c.next.ensures.steps c.in-None.is in
    let root = first_step a.way.now c.in-Some-first.root.now c.in-Some-first.ensures.value in
    let z : length (steps_left c.loop-up.up-iterator) - 1 ≡ 0 = omega (arith, one) in
    from_fits a.lent a.self a.way.now _ _ _ c.loop-up.t _ _ i.6 (o.some root.0) o.within _ (above_none a.way.now _ z) c.in-Some-first.root.now (rw z root.1) c.requires.room.0
