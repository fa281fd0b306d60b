use Rattle.tree.specs.laws.slots.Touch.{touched_way, touched_ready, leaf_room, leaf_used, touched_both}
use borrow.Author.Rules.{rules}
use Rattle.tree.proofs.editor.Tree.touch.Goals as goal

ruleset laws = (rules, touched_way, touched_ready, leaf_room, leaf_used, touched_both)

pub mark_dirty-requires-2 : goal.mark_dirty-requires-2
mark_dirty-requires-2 c = record { ready = search laws; n_lt_used = search laws }

pub returns : goal.returns
returns c = search laws
