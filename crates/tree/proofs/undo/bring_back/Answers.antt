use native.Mathlib.Omega.{arith}
use Rattle.tree.specs.laws.slots.Copy.{back_live, back_shadow, back_lies, brings}
use borrow.Author.Rules.{rules}
use Rattle.tree.proofs.undo.bring_back.Goals as goal

pub copy_slot-requires : goal.copy_slot-requires
copy_slot-requires c =
    let p = c.requires in
    record { lies = back_lies _ _ _ _ _ _ p.shadowed p.n_lt_used c.if-heads-at-ne0.true; size_bound = (p.shadowed.most, omega (arith, p.shadowed.many, p.shadowed.within, p.n_lt_used), omega (arith, p.shadowed.many, p.shadowed.within, p.n_lt_used), omega (arith, p.shadowed.words, p.shadowed.within, p.n_lt_used), omega (arith, p.shadowed.words, p.shadowed.within, p.n_lt_used), back_shadow _ _ _ _ _ _ p.shadowed p.n_lt_used, back_live _ _ _ _ _ _ p.shadowed p.n_lt_used) }

pub returns-then-heads-at-ne0 : goal.returns-then-heads-at-ne0
returns-then-heads-at-ne0 c = search (rules, brings)

pub returns-else-heads-at-ne0 : goal.returns-else-heads-at-ne0
returns-else-heads-at-ne0 c = search (rules, brings)
