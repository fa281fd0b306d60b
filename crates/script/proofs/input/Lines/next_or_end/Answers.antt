use Rattle.std.proofs.Common.{◌+◌, refl, sym, rules, tests, arith}
use Rattle.script.specs.internal.Coming.{Ended}
use Rattle.script.specs.laws.ReadLaws.{coming_turn, reads_found, ahead_found, left_drop, ends_found, ended_empty, ended_turns, none_left, reads_last, ends_last}
use Rattle.script.proofs.input.Lines.next_or_end.Given as Given
use Rattle.script.proofs.input.Lines.next_or_end.Goals as goal
use Rattle.script.proofs.input.Lines.next_or_end.Goals.{else-loop-turn-test, then-loop-turn-test+then-is_empty}

pub returns-in-Some-clause-ahead : goal.returns-in-Some-clause-ahead
returns-in-Some-clause-ahead g c = λ t.
    ahead_found c.args.self.now c.loop-turn.self c.refill.new.self _ c.args.line.now c.loop-turn.line c.put-len.new.line
    c.loop-turn.len c.loop-turn._turn c.put-len.result c.in-Some.n c.fitting.result c.loop-turn.invariant c.refill.ensures
    (omega arith) (sym c.in-Some.ensures) c.put-len.ensures.count c.put-len.ensures.room
    (left_drop c.refill.new.self.bytes c.refill.new.self.start c.refill.new.self.end (c.in-Some.n + 1)) refl refl refl refl c.fitting.ensures t

pub returns-in-Some-clause-reads : goal.returns-in-Some-clause-reads
returns-in-Some-clause-reads g c = λ xs x h i.
    reads_found c.args.self.now c.loop-turn.self c.refill.new.self c.args.line.now c.loop-turn.line c.put-len.new.line _
    c.loop-turn.len c.loop-turn._turn c.put-len.result c.in-Some.n c.fitting.result xs c.loop-turn.invariant c.refill.ensures
    (omega arith) (sym c.in-Some.ensures) c.put-len.ensures.count c.put-len.ensures.room
    (left_drop c.refill.new.self.bytes c.refill.new.self.start c.refill.new.self.end (c.in-Some.n + 1)) c.fitting.ensures x i

pub returns-in-Some-clause-ends : goal.returns-in-Some-clause-ends
returns-in-Some-clause-ends g c =
    ends_found c.args.self.now c.loop-turn.self c.refill.new.self _ c.args.line.now c.loop-turn.line _
    c.loop-turn.len c.loop-turn._turn c.in-Some.n c.loop-turn.invariant c.refill.ensures (sym c.in-Some.ensures) refl

pub loop-turn-preserved : goal.loop-turn-preserved
loop-turn-preserved g c =
    coming_turn c.args.self.now c.loop-turn.self c.refill.new.self _ c.args.line.now c.loop-turn.line c.put-len-in-None.new.line
    c.loop-turn.len c.loop-turn._turn c.put-len-in-None.result c.loop-turn.invariant c.refill.ensures
    (omega arith) (search (rules, tests)) (sym c.in-None.ensures) c.put-len-in-None.ensures.count c.put-len-in-None.ensures.room
    (none_left c.refill.new.self.bytes c.refill.new.self.end) refl refl

-- the line is over where none is left, and after as many turns as there can be
ended : (g : Given.Over) (c : goal.After-last g)
    → Ended g.R.Read.remaining c.args.self.now c.loop-turn-test.self c.args.line.now c.loop-turn.line c.loop-turn.len
ended g c = elim c.loop-turn-test.branch [
  | else-loop-turn-test w ↦ rw w.self-is
      (ended_turns c.args.self.now c.loop-turn.self c.args.line.now c.loop-turn.line c.loop-turn.len c.loop-turn._turn
      c.loop-turn.invariant w.loop-turn-test.false)
  | then-loop-turn-test+then-is_empty w ↦ rw w.self-is
      (ended_empty c.args.self.now c.loop-turn.self w.refill.new.self c.args.line.now c.loop-turn.line c.loop-turn.len c.loop-turn._turn
      c.loop-turn.invariant w.refill.ensures (search (rules, tests)))
]

pub returns-clause-ahead : goal.returns-clause-ahead
returns-clause-ahead g c = λ t. absurd ((ended g c).none t)

pub returns-clause-reads : goal.returns-clause-reads
returns-clause-reads g c = λ xs x h i.
    reads_last c.args.self.now c.loop-turn-test.self c.args.line.now c.loop-turn.line c.loop-turn.len c.last.result xs
    (ended g c) c.last.ensures x h i

pub returns-clause-ends : goal.returns-clause-ends
returns-clause-ends g c =
    ends_last c.args.self.now c.loop-turn-test.self c.args.line.now c.loop-turn.line c.loop-turn.len c.min-held.result c.last.result
    (ended g c) c.last.ensures c.min-held.ensures
