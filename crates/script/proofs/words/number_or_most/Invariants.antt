use Rattle.std.proofs.Common.{◌≡◌, ◌<◌, ◌^◌, min, drop}
use Rattle.script.specs.Number.{most}
use Rattle.script.specs.Words.{spelled, number_of}
use Rattle.script.proofs.words.number_or_most.Given as goal

abbrev pub invariant-loop-b : goal.invariant-loop-b
invariant-loop-b l = record { fits : l.n < 2 ^ 64; kept : min (spelled l.n (drop l.b-index l.w)) most ≡ number_of l.w }
