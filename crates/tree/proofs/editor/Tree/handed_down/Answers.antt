use mathlib.Core.Path.{refl}
use Rattle.tree.specs.laws.remove.Words.{old_lies, old_ready, new_lies, handed_done}
use borrow.Author.Rules.{rules}
use Rattle.tree.specs.State.{with_counts}
use Rattle.tree.proofs.editor.Tree.handed_down.Goals as goal

ruleset laws = (rules, old_lies, old_ready, new_lies)

pub put_words-requires : goal.put_words-requires
put_words-requires c = search laws

pub put_words-requires-2 : goal.put_words-requires-2
put_words-requires-2 c = search laws

pub returns : goal.returns
unfolding with_counts
returns c =
    let args = c.args in
    let pre = c.requires in
    let load = c.load-old in
    let load2 = c.load-new in
    let put-words = c.put_words in
    let put-words2 = c.put_words-2 in
    handed_done _ _ _ args.self _ _ pre.ready pre.place.0 pre.place.1 _ _ load.ensures load2.ensures _ _ put-words.auto.heads put-words.auto.bytes pre.place.2 put-words.ensures.put _ _ put-words2.auto.heads put-words2.auto.bytes put-words.ensures.follows put-words2.ensures.put put-words2.ensures.follows _ _ refl refl
