use Rattle.std.proofs.Common.{◌≡◌}
use Rattle.tree.specs.laws.base.Refused.{handed_on}
use Rattle.flush.specs.laws.AllLaws.{usable_few, short_full, short_rest}
use borrow.Author.Rules.{rules}
use Rattle.flush.proofs.flush.short_of.Goals as goal

pub count_from-wanted-requires : goal.count_from-wanted-requires
count_from-wanted-requires c = search (rules, usable_few)

pub returns-in_err-check : goal.returns-in_err-check
returns-in_err-check c =
    let a = c.args in
    let z : c.default.result ≡ record { dirty = 0; ids = 0 } = search rules in
    rw (handed_on c.from_residual.result _ c.from_residual.ensures.1)
    (short_full _ a.v.tree _ _ _ a.next _ _ c.level_at-level.ensures (rw z at c.count_from-wanted.ensures) _ c.usable-most.ensures _ c.in_err-check.ensures)

pub returns : goal.returns
returns c =
    let a = c.args in
    let z : c.default.result ≡ record { dirty = 0; ids = 0 } = search rules in
    short_rest _ a.v.tree _ _ _ a.next _ _ c.level_at-level.ensures (rw z at c.count_from-wanted.ensures) _ c.usable-most.ensures c.in_ok-check.ensures
    _ _ _ c.checked_add.ensures c.is_some.ensures c.check-2.ensures
