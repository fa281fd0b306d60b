use Rattle.tree.specs.laws.remove.Words.{words_put, words_follows}
use borrow.Author.Rules.{rules}
use Rattle.tree.proofs.editor.Tree.put_words.Goals as goal

ruleset laws = (rules, words_put, words_follows)

pub returns : goal.returns
returns c = search laws
