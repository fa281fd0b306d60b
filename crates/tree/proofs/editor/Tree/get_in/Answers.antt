use Rattle.tree.specs.laws.lookup.LoadedCalls.{leaf_answer, leaf_output, got_left}
use Rattle.tree.proofs.editor.Tree.get_in.Goals as goal

pub returns-in-Some : goal.returns-in-Some
returns-in-Some c =
    let a = c.args in
    let p = c.requires.trusts in
    let q = c.leaf_of.ensures in
    let k = q.keys _ c.in-Some.is in
    let d = q.leads _ c.in-Some.is in
    let w = c.copy_held.ensures in
    let e = leaf_answer a.image.now a.lent a.self _ _ p _ _ k d _ _ w.answer in
    record { answer = e; output = leaf_output a.image.now a.lent a.self _ _ p _ _ k d _ _ w.output; left = got_left a.image.now a.lent a.self _ _ p _ _ _ _ e w.ready }
