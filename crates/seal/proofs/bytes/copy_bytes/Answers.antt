use borrow.Author.Rules.{rules}
use Rattle.seal.specs.laws.CopyLaws.{copy_start, copy_next, copy_done}
use Rattle.seal.proofs.bytes.copy_bytes.Goals as goal

ruleset laws = (rules, copy_start, copy_next, copy_done)

pub loop-k-preserved : goal.loop-k-preserved
loop-k-preserved c = search laws

pub returns : goal.returns
returns c = search laws
