use Rattle.std.proofs.Common.{◌∙◌}
use Rattle.tree.specs.laws.omap.Drop.{ranged_trusts, ranged_room}
use Rattle.tree.proofs.editor.Tree.dropped.Goals as goal

pub range_out-requires : goal.range_out-requires
range_out-requires c =
    let a = c.args in
    let p = c.requires in
    let r = c.range_from.ensures in
    let w = c.split_at_mut-keys.ensures.back_len ∙ p.room in
    record { room = ranged_room a.image.now a.lent a.self _ _ _ _ _ _ c.level_at-level.ensures c.pair_key-lo.ensures c.versions_end-hi.ensures _ _ _ r.answer p.trusts _ c.in_ok-found.was r.ready _ w }

pub remove_all-requires-clause-trusts : goal.remove_all-requires-clause-trusts
remove_all-requires-clause-trusts c =
    let a = c.args in
    let r = c.range_from.ensures in
    ranged_trusts a.image.now a.lent a.self _ _ _ _ _ _ c.level_at-level.ensures c.pair_key-lo.ensures c.versions_end-hi.ensures _ _ _ r.answer c.requires.trusts _ c.in_ok-found.was r.ready
