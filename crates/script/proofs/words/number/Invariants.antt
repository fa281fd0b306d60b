use Rattle.std.proofs.Common.{◌≡◌, ◌<◌, ◌^◌, drop}
use Rattle.script.specs.Words.{number_read}
use Rattle.script.specs.laws.NumberLaws.{made}
use Rattle.script.proofs.words.number.Given as goal

abbrev pub invariant-loop-b : goal.invariant-loop-b
invariant-loop-b l = record { fits : l.n < 2 ^ 64; kept : made l.n (drop l.b-index l.w) ≡ number_read l.w }
