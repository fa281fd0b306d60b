use Rattle.std.proofs.Common.{◌≡◌, ◌-◌}
use Rattle.script.specs.Words.{are_numbers}
use Rattle.script.proofs.words.are_numbers.Given as goal

abbrev pub invariant-loop-k : goal.invariant-loop-k
invariant-loop-k l = are_numbers l.s l.k (l.to - l.k) ≡ are_numbers l.s l.from (l.to - l.from)
