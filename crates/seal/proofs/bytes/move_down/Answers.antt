use borrow.Author.Rules.{rules}
use Rattle.seal.specs.laws.MoveLaws.{moved_none, down_next, down_stop}
use Rattle.seal.proofs.bytes.move_down.Goals as goal

ruleset laws = (rules, moved_none, down_next, down_stop)

pub loop-k-preserved : goal.loop-k-preserved
loop-k-preserved c = search laws
