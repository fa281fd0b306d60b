use Rattle.std.proofs.Common.{◌≡◌}
use Rattle.script.specs.Words.{listed}
use Rattle.script.proofs.words.split.Given as goal

abbrev pub invariant-loop-w : goal.invariant-loop-w
invariant-loop-w l = listed l.words ≡ l.yielded
