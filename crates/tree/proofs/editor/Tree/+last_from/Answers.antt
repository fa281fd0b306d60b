use Rattle.tree.specs.laws.lookup.FloorDown.{into_more, into_in, last_down}
use Rattle.tree.specs.laws.slots.Undo.{follows_on}
use borrow.Author.Rules.{rules}
use Rattle.tree.proofs.editor.Tree.+last_from.Goals as goal

pub last_from-requires : goal.last_from-requires
last_from-requires t c =
    (search (rules, c.if-d-eq0.false, c.decreases), (c.in_ok-t.ensures.ready, into_in _ _ c.args.self _ _ _ _ _ _ _ _ c.load_child.ensures.answer _ _ c.in_ok-t.was _ c.requires.bounds_in c.child_bounds-inner.ensures.within))

pub returns-clause-answer : goal.returns-clause-answer
returns-clause-answer t c =
    last_down _ _ c.args.self _ _ _ _ _ c.if-d-eq0.false _ _ c.count_at-count.ensures.0 c.saturating_sub-i.ensures _ _ _ c.load_child.ensures.answer _ _ c.in_ok-t.was _ c.requires.bounds_in c.child_bounds-inner.ensures.within c.child_bounds-inner.ensures.bounds _ c.last_from.ensures.answer

pub returns-clause-follows : goal.returns-clause-follows
returns-clause-follows t c =
    follows_on _ _ _ _ _ _ _ _ _ _ c.load_child.ensures.follows c.last_from.ensures.follows (into_more _ _ c.args.self _ _ _ _ _ _ _ _ c.load_child.ensures.answer _ _ c.in_ok-t.was)
