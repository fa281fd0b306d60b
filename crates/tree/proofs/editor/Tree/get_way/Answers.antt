use Rattle.tree.specs.laws.lookup.GetCall.{get_found_out}
use Rattle.tree.proofs.editor.Tree.get_way.Goals as goal

pub returns-clause-output : goal.returns-clause-output
returns-clause-output c =
    get_found_out _ _ c.args.self _ _ c.requires.bytes_value _ c.level_at-level.ensures _ c.args.out.now _ _ c.way.result c.way.ensures.answer _ c.in_ok-w.was _ c.leaf.ensures _ c.copy_held.ensures.output
