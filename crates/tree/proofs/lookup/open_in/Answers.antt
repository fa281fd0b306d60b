use Rattle.node.specs.laws.base.Bytes.{bytes_known}
use Rattle.tree.specs.laws.load.Open.{open_sizes, open_least, open_most, open_some, open_many, open_order, open_unmapped, open_found, opened_trusts}
use borrow.Author.Rules.{rules}
use Rattle.tree.proofs.lookup.open_in.Goals as goal

pub returns-clause-trusts : goal.returns-clause-trusts
returns-clause-trusts c =
    let a = c.args in
    let g = c.open_at in
    opened_trusts a.image.now a.lent a.r a.order.code a.xid _ _ g.result (bytes_known _ c.type_inv.image) g.ensures.ready (search (rules, open_sizes, open_least, open_most, open_some, open_many, open_order, open_unmapped, open_found, c.in_ok-a.was, c.in_ok-check.ensures, c.in_ok-check-2.ensures))
