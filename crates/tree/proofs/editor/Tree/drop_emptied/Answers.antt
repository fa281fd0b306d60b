use Rattle.tree.specs.laws.remove.Drops.{emptied_next, one_at_most}
use Rattle.tree.specs.laws.cut.Pairs.{pair}
use native.Mathlib.Omega.{arith}
use borrow.Author.Rules.{rules}
use Rattle.tree.proofs.editor.Tree.drop_emptied.Goals as goal

pub loop-above-preserved : goal.loop-above-preserved
loop-above-preserved c =
    let i = c.loop-above.invariant in
    let q = pair c.args.way.now _ i.2 i.0.1 _ _ c.next.ensures.steps _ c.in-Some.is in
    let w = c.drop_if_empty-empty.ensures in
    let f = emptied_next _ _ c.args.self _ _ _ _ _ _ _ i.6 (omega (arith, q.some)) (omega (arith, q.some, i.2.within)) _ _ q.above q.below _ _ _ w in
    (search rules, tt, q.next, omega (arith, i.3, q.left, q.some, c.from-dropped.ensures, one_at_most c.drop_if_empty-empty.result), search rules, search rules, rw (q.left, c.from-dropped.ensures) f)
