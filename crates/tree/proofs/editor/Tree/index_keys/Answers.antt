use Rattle.tree.specs.laws.cut.IndexKeys.{index_turn, indexed_next}
use Rattle.tree.specs.laws.cut.Pairs.{pair}
use native.Mathlib.Omega.{arith}
use borrow.Author.Rules.{rules}
use Rattle.tree.proofs.editor.Tree.index_keys.Goals as goal

pub set_index_key-requires-clause-room : goal.set_index_key-requires-clause-room
set_index_key-requires-clause-room c =
    let i = c.loop-above.invariant in
    let q = pair c.args.way.now _ i.2 i.0.1 _ _ c.next.ensures.steps _ c.in-Some.is in
    index_turn _ _ c.args.self _ _ _ _ _ _ i.6 (omega (arith, q.some)) (omega (arith, q.some, i.2.within)) _ _ q.above q.below _ _ c.requires.ready.1 c.requires.room i.5

pub loop-above-preserved : goal.loop-above-preserved
loop-above-preserved c =
    let i = c.loop-above.invariant in
    let q = pair c.args.way.now _ i.2 i.0.1 _ _ c.next.ensures.steps _ c.in-Some.is in
    let f = indexed_next _ _ c.args.self _ _ _ _ _ _ i.6 (omega (arith, q.some)) (omega (arith, q.some, i.2.within)) _ _ q.above q.below _ _ c.set_index_key.ensures in
    (search rules, tt, q.next, search rules, search rules, search rules, rw q.left f)
