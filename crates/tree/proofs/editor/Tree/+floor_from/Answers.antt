use Rattle.tree.specs.laws.base.Refused.{handed_on}
use Rattle.tree.specs.laws.lookup.FloorDown.{into_more, into_in, floor_below, floor_found, floor_more, floor_in_lem, floor_left}
use Rattle.tree.specs.laws.slots.Undo.{follows_on}
use borrow.Author.Rules.{rules}
use Rattle.tree.proofs.editor.Tree.+floor_from.Goals as goal

pub floor_from-requires : goal.floor_from-requires
floor_from-requires t c =
    (search (rules, c.if-d-eq0.false, c.decreases), (c.in_ok-t.ensures.ready, into_in _ _ c.args.self _ _ _ _ _ _ _ _ c.load_child.ensures.answer _ _ c.in_ok-t.was _ c.requires.bounds_in c.child_bounds-inner.ensures.within))

pub returns-in_err-u-clause-answer : goal.returns-in_err-u-clause-answer
returns-in_err-u-clause-answer t c =
    rw (handed_on c.from_residual-in_err-u.result _ c.from_residual-in_err-u.ensures.1)
    (floor_below _ _ c.args.self _ _ _ _ _ _ c.if-d-eq0.false _ c.way_index-i.ensures _ _ _ c.load_child.ensures.answer _ _ c.in_ok-t.was _ c.requires.bounds_in c.child_bounds-inner.ensures.within c.child_bounds-inner.ensures.bounds _ _ _ c.floor_from.ensures.answer _ c.in_err-u.was)

pub returns-in_err-u-clause-follows : goal.returns-in_err-u-clause-follows
returns-in_err-u-clause-follows t c =
    follows_on _ _ _ _ _ _ _ _ _ _ c.load_child.ensures.follows c.floor_from.ensures.follows (into_more _ _ c.args.self _ _ _ _ _ _ _ _ c.load_child.ensures.answer _ _ c.in_ok-t.was)

pub returns-in-Some-clause-answer : goal.returns-in-Some-clause-answer
returns-in-Some-clause-answer t c =
    floor_found _ _ c.args.self _ _ _ _ _ _ c.if-d-eq0.false _ c.way_index-i.ensures _ _ _ c.load_child.ensures.answer _ _ c.in_ok-t.was _ c.requires.bounds_in c.child_bounds-inner.ensures.within c.child_bounds-inner.ensures.bounds _ _ _ c.floor_from.ensures.answer _ _ c.in_ok-u.was _ c.in-Some.is

pub returns-in-Some-clause-follows : goal.returns-in-Some-clause-follows
returns-in-Some-clause-follows t c =
    follows_on _ _ _ _ _ _ _ _ _ _ c.load_child.ensures.follows c.floor_from.ensures.follows (into_more _ _ c.args.self _ _ _ _ _ _ _ _ c.load_child.ensures.answer _ _ c.in_ok-t.was)

pub floor_left-requires-clause-bounds_in : goal.floor_left-requires-clause-bounds_in
floor_left-requires-clause-bounds_in t c =
    floor_in_lem _ _ c.args.self _ _ _ _ _ _ c.if-d-eq0.false _ c.way_index-i.ensures _ _ _ c.load_child.ensures.answer _ _ c.in_ok-t.was _ c.requires.bounds_in c.child_bounds-inner.ensures.within c.child_bounds-inner.ensures.bounds _ _ _ c.floor_from.ensures.answer _ _ c.in_ok-u.was c.in-None.is

pub returns-in-None-clause-answer : goal.returns-in-None-clause-answer
returns-in-None-clause-answer t c =
    floor_left _ _ c.args.self _ _ _ _ _ _ c.if-d-eq0.false _ c.way_index-i.ensures _ _ _ c.load_child.ensures.answer _ _ c.in_ok-t.was _ c.requires.bounds_in c.child_bounds-inner.ensures.within c.child_bounds-inner.ensures.bounds _ _ _ c.floor_from.ensures.answer _ _ c.in_ok-u.was c.in-None.is _ c.floor_left.ensures.answer

pub returns-in-None-clause-follows : goal.returns-in-None-clause-follows
returns-in-None-clause-follows t c =
    follows_on _ _ _ _ _ _ _ _ _ _ (follows_on _ _ _ _ _ _ _ _ _ _ c.load_child.ensures.follows c.floor_from.ensures.follows (into_more _ _ c.args.self _ _ _ _ _ _ _ _ c.load_child.ensures.answer _ _ c.in_ok-t.was))
    c.floor_left.ensures.follows (floor_more _ _ c.args.self _ _ _ _ _ _ c.if-d-eq0.false _ c.way_index-i.ensures _ _ _ c.load_child.ensures.answer _ _ c.in_ok-t.was _ c.requires.bounds_in c.child_bounds-inner.ensures.within c.child_bounds-inner.ensures.bounds _ _ _ c.floor_from.ensures.answer _ _ c.in_ok-u.was c.in-None.is)
