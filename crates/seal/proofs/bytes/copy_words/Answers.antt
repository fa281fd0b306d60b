use borrow.Author.Rules.{rules}
use Rattle.seal.specs.laws.CopyLaws.{word_next, word_last, copy_start}
use Rattle.seal.proofs.bytes.copy_words.Goals as goal

ruleset laws = (rules, word_next, word_last, copy_start)

pub loop-k-preserved : goal.loop-k-preserved
loop-k-preserved c = search laws

pub returns : goal.returns
returns c = search laws
