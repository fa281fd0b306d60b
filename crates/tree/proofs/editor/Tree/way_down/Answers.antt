use native.Mathlib.Omega.{arith}
use Rattle.tree.specs.laws.load.Way.{turn_in, turn_down, turn_more, ready_at}
use Rattle.tree.specs.laws.slots.Undo.{follows_on}
use Rattle.tree.proofs.editor.Tree.way_down.Goals as goal

pub loop-k-preserved : goal.loop-k-preserved
loop-k-preserved c =
    let o = c.loop-k.invariant in
    let k = c.loop-k-test.true in
    let x = c.in_ok-u.was in
    let a = c.load_child.ensures in
    let b = c.child_bounds-inner.ensures in
    let i = c.way_index-i.ensures in
    record {
      taken = omega (arith, o.taken, c.push.ensures.len);
      within = turn_in _ _ _ _ _ _ c.child_bounds-inner.result _ _ _ _ _ _ _ k i o.whole _ _ _ a.answer _ _ x o.within b.bounds b.within;
      ready = ready_at _ _ _ _ _ _ _ x a.ready;
      whole = turn_down _ _ _ _ _ _ c.child_bounds-inner.result _ _ _ _ _ _ _ k i o.whole _ _ _ a.answer _ _ x o.within b.bounds b.within _ c.push.ensures.items;
      more = omega (arith, o.more, turn_more _ _ _ _ _ _ c.child_bounds-inner.result _ _ _ _ _ _ _ k i o.whole _ _ _ a.answer _ _ x);
      follows = follows_on _ _ _ _ _ _ _ _ _ _ o.follows a.follows o.more;
    }

pub returns-in_err-u-clause-follows : goal.returns-in_err-u-clause-follows
returns-in_err-u-clause-follows c =
    let o = c.loop-k.invariant in
    follows_on _ _ _ _ _ _ _ _ _ _ o.follows c.load_child.ensures.follows o.more
