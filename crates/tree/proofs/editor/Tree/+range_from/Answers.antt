use native.Mathlib.Omega.{arith}
use borrow.Author.Rules.{rules}
use Rattle.std.proofs.Common.{refl, ◌∙◌}
use Rattle.tree.specs.internal.Range.{both, found_in}
use Rattle.tree.specs.laws.base.Refused.{handed_on}
use Rattle.tree.specs.laws.slots.Undo.{follows_on}
use Rattle.tree.specs.laws.lookup.RangeCountCode.{child_refused, child_more, child_slot, child_in, child_entered, both_most}
use Rattle.tree.specs.laws.lookup.RangeCountCode.{turn_refused, turn_more, turn_falls, turn_in, turn_next}
use Rattle.tree.proofs.editor.Tree.+range_from.Goals as goal

pub returns-then-d-eq0-clause-ready : goal.returns-then-d-eq0-clause-ready
unfolding found_in
returns-then-d-eq0-clause-ready t c = rw c.ranged_at.ensures c.requires.ready_2

pub returns-in_err-t-clause-answer : goal.returns-in_err-t-clause-answer
returns-in_err-t-clause-answer t c =
    let v = c.loop-i.invariant in
    rw (handed_on c.from_residual.result _ c.from_residual.ensures.1)
    (turn_refused _ _ _ _ _ _ _ c.loop-i.found _ _ _ _ v.rest _ c.next_entered.ensures _ c.in-Some.is _ _ _ (child_refused _ _ c.loop-i.found.tree _ _ _ _ _ _ _ _ c.load_child.ensures.answer _ _ _ _ c.in_err-t.was) _ refl)

pub range_from-requires : goal.range_from-requires
range_from-requires t c =
    let v = c.loop-i.invariant in
    (search (rules, c.if-d-eq0.false, c.decreases), (c.in_ok-t.ensures.ready, child_in _ _ c.loop-i.found.tree _ _ _ _ _ _ _ _ c.load_child.ensures.answer _ _ c.in_ok-t.was _ v.bounds c.child_bounds-inner.ensures.within))

pub returns-in_err-below-clause-answer : goal.returns-in_err-below-clause-answer
returns-in_err-below-clause-answer t c =
    let v = c.loop-i.invariant in
    rw (handed_on c.from_residual-in_err-below.result _ c.from_residual-in_err-below.ensures.1)
    (turn_refused _ _ _ _ _ _ _ c.loop-i.found _ _ _ _ v.rest _ c.next_entered.ensures _ c.in-Some.is _ _ _ (child_entered _ _ c.loop-i.found.tree _ _ _ _ _ _ _ _ c.load_child.ensures.answer _ _ c.in_ok-t.was _ v.bounds c.child_bounds-inner.ensures.within c.child_bounds-inner.ensures.bounds _ _ _ _ c.range_from.ensures.answer) _ c.in_err-below.was)

pub returns-in_err-below-clause-follows : goal.returns-in_err-below-clause-follows
returns-in_err-below-clause-follows t c =
    let v = c.loop-i.invariant in
    let f = follows_on _ _ _ _ _ _ _ _ _ _ c.load_child.ensures.follows c.range_from.ensures.follows (child_more _ _ c.loop-i.found.tree _ _ _ _ _ _ _ _ c.load_child.ensures.answer _ _ c.in_ok-t.was) in
    follows_on _ _ _ _ _ _ _ _ _ _ v.follows f v.more

pub loop-i-smaller : goal.loop-i-smaller
unfolding both
loop-i-smaller t c =
    let v = c.loop-i.invariant in
    rw c.then-found.ensures (turn_falls _ _ _ _ _ _ _ c.loop-i.found _ _ _ _ v.rest _ c.next_entered.ensures _ c.in-Some.is _ _ _ (child_entered _ _ c.loop-i.found.tree _ _ _ _ _ _ _ _ c.load_child.ensures.answer _ _ c.in_ok-t.was _ v.bounds c.child_bounds-inner.ensures.within c.child_bounds-inner.ensures.bounds _ _ _ _ c.range_from.ensures.answer) _ c.in_ok-below.was (child_slot _ _ c.loop-i.found.tree _ _ _ _ _ _ _ _ c.load_child.ensures.answer _ _ c.in_ok-t.was))

pub loop-i-preserved : goal.loop-i-preserved
unfolding both
loop-i-preserved t c =
    let v = c.loop-i.invariant in
    let f = follows_on _ _ _ _ _ _ _ _ _ _ c.load_child.ensures.follows c.range_from.ensures.follows (child_more _ _ c.loop-i.found.tree _ _ _ _ _ _ _ _ c.load_child.ensures.answer _ _ c.in_ok-t.was) in
    let k = both_most c.loop-i.found c.in_ok-below.below in
    rw c.then-found.ensures (record {
      words = c.range_from.auto.heads ∙ c.load_child.auto.heads ∙ v.words;
      room = c.range_from.auto.bytes ∙ c.load_child.auto.bytes ∙ v.room;
      count = k.0;
      length = k.1;
      bounds = turn_in _ _ _ _ _ _ _ c.loop-i.found _ _ _ _ v.rest _ c.next_entered.ensures _ c.in-Some.is _ _ _ (child_entered _ _ c.loop-i.found.tree _ _ _ _ _ _ _ _ c.load_child.ensures.answer _ _ c.in_ok-t.was _ v.bounds c.child_bounds-inner.ensures.within c.child_bounds-inner.ensures.bounds _ _ _ _ c.range_from.ensures.answer) _ c.in_ok-below.was (child_slot _ _ c.loop-i.found.tree _ _ _ _ _ _ _ _ c.load_child.ensures.answer _ _ c.in_ok-t.was) v.bounds;
      ready = c.in_ok-below.ensures.ready;
      more = omega (arith, v.more, turn_more _ _ _ _ _ _ _ c.loop-i.found _ _ _ _ v.rest _ c.next_entered.ensures _ c.in-Some.is _ _ _ (child_entered _ _ c.loop-i.found.tree _ _ _ _ _ _ _ _ c.load_child.ensures.answer _ _ c.in_ok-t.was _ v.bounds c.child_bounds-inner.ensures.within c.child_bounds-inner.ensures.bounds _ _ _ _ c.range_from.ensures.answer) _ c.in_ok-below.was (child_slot _ _ c.loop-i.found.tree _ _ _ _ _ _ _ _ c.load_child.ensures.answer _ _ c.in_ok-t.was));
      follows = follows_on _ _ _ _ _ _ _ _ _ _ v.follows f v.more;
      rest = turn_next _ _ _ _ _ _ _ c.loop-i.found _ _ _ _ v.rest _ c.next_entered.ensures _ c.in-Some.is _ _ _ (child_entered _ _ c.loop-i.found.tree _ _ _ _ _ _ _ _ c.load_child.ensures.answer _ _ c.in_ok-t.was _ v.bounds c.child_bounds-inner.ensures.within c.child_bounds-inner.ensures.bounds _ _ _ _ c.range_from.ensures.answer) _ c.in_ok-below.was (child_slot _ _ c.loop-i.found.tree _ _ _ _ _ _ _ _ c.load_child.ensures.answer _ _ c.in_ok-t.was) v.bounds;
    })
