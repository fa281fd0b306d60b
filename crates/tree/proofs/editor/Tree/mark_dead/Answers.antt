use Rattle.tree.specs.laws.remove.Words.{dying_lies, died}
use borrow.Author.Rules.{rules}
use Rattle.tree.proofs.editor.Tree.mark_dead.Goals as goal

ruleset laws = (rules, dying_lies, died)

pub put_words-requires-clause-place : goal.put_words-requires-clause-place
put_words-requires-clause-place c = search laws
