use Rattle.script.specs.internal.Coming.{Coming}
use Rattle.script.proofs.input.Lines.next_or_end.Given as goal

abbrev pub invariant-loop-turn : goal.invariant-loop-turn
invariant-loop-turn g l = Coming g.R.Read.remaining l.initial.self l.self l.initial.line l.line l.len l._turn
