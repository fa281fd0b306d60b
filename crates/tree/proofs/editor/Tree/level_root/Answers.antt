use Rattle.tree.specs.laws.remove.Words.{level_kept, leveling_lies, level_done}
use borrow.Author.Rules.{rules}
use Rattle.tree.proofs.editor.Tree.level_root.Goals as goal

ruleset laws = (rules, level_kept, level_done)

pub returns-then-count-ne0 : goal.returns-then-count-ne0
returns-then-count-ne0 c = search laws

pub put_words-requires : goal.put_words-requires
put_words-requires c =
    let pre = c.requires in
    let args = c.args in
    let count_at = c.count_at-count in
    let load = c.load-h in
    record { ready = pre.0; place = (pre.1, leveling_lies _ _ args.self _ _ pre.0 _ count_at.ensures.0 pre.1 _ load.ensures) }
