use borrow.Author.Tests.{leb-true}
use Rattle.tree.specs.laws.lookup.RangeCall.{way_output}
use Rattle.tree.proofs.editor.Tree.range_way.Goals as goal

pub returns-clause-output : goal.returns-clause-output
returns-clause-output c =
    let a = c.args in
    let p = c.requires in
    way_output a.image.now a.lent a.self _ _ _ c.level_at-level.ensures _ _ _ _ _ c.range_from.ensures.answer _ c.in_ok-found.was p.bytes_value p.roomy a.out.now (leb-true _ _ c.in_ok-check.ensures) _ c.range_out.ensures.output
