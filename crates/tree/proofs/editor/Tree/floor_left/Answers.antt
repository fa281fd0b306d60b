use Rattle.tree.specs.laws.lookup.FloorDown.{into_more, into_in, left_down}
use Rattle.tree.specs.laws.slots.Undo.{follows_on}
use Rattle.tree.proofs.editor.Tree.floor_left.Goals as goal

pub last_from-requires-clause-bounds_in : goal.last_from-requires-clause-bounds_in
last_from-requires-clause-bounds_in c =
    into_in _ _ c.args.self _ _ _ _ _ _ _ _ c.load_child.ensures.answer _ _ c.in_ok-t.was _ c.requires.bounds_in c.child_bounds-inner.ensures.within

pub returns-clause-answer : goal.returns-clause-answer
returns-clause-answer c =
    left_down _ _ c.args.self _ _ _ _ _ _ _ c.if-i-eq0.false _ c.key_at.ensures _ c.less-above.ensures c.if-above.false _ _ _ c.load_child.ensures.answer _ _ c.in_ok-t.was _ c.requires.bounds_in c.child_bounds-inner.ensures.within c.child_bounds-inner.ensures.bounds _ c.last_from.ensures.answer

pub returns-clause-follows : goal.returns-clause-follows
returns-clause-follows c =
    follows_on _ _ _ _ _ _ _ _ _ _ c.load_child.ensures.follows c.last_from.ensures.follows (into_more _ _ c.args.self _ _ _ _ _ _ _ _ c.load_child.ensures.answer _ _ c.in_ok-t.was)
