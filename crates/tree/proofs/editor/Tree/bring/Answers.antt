use Rattle.tree.specs.laws.slots.Undo.{follows_add}
use mathlib.Core.Path.{refl}
use Rattle.tree.specs.laws.slots.Tree.{bring_state, bring_ready}
use borrow.Author.Rules.{rules}
use Rattle.tree.proofs.editor.Tree.bring.Goals as goal

pub returns : goal.returns
returns c =
    let p = c.requires in
    let a = c.args in
    let l = c.link in
    let d = c.adopt_into in
    record { after = bring_state _ a.lent.slots _ _ _ a.self _ _ _ _ _ _ _ _ p.nkeys_bound.3.0 p.nkeys_bound.2 l.ensures.put d.ensures refl; ready = bring_ready _ _ _ _ _ a.self _ _ _ _ _ _ _ _ p.nkeys_bound.3.0 p.nkeys_bound.2 l.ensures.put d.ensures refl p.ready_2 l.auto.heads (search rules) l.auto.bytes (search rules); follows = follows_add _ _ _ _ _ _ _ _ _ _ l.ensures.follows d.ensures p.nkeys_bound.2 }
