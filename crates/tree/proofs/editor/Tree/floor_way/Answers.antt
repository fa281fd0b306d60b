use Rattle.tree.specs.laws.lookup.FloorCall.{way_none_same}
use Rattle.tree.proofs.editor.Tree.floor_way.Goals as goal

pub returns-in-None-clause-output : goal.returns-in-None-clause-output
returns-in-None-clause-output c =
    way_none_same _ _ c.args.self _ _ _ c.level_at-level.ensures _ _ _ _ c.floor_from.ensures.answer c.args.out.now _ _ c.in_ok-t.was c.in-None.is
