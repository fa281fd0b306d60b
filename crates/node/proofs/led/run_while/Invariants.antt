use Rattle.std.proofs.Common.{◌≡◌, ◌+◌}
use Rattle.node.specs.internal.Sought.{Passed}
use Rattle.node.proofs.led.run_while.Given as goal

abbrev pub invariant-loop-i : goal.invariant-loop-i
invariant-loop-i g l =
    record {
      passed : Passed g.S.Sought.order (g.S.Sought.wanted l.s) l.records.count l.records.slot.now (record { count = l.i; at = l.at; last = l.last });
      ahead : l.after ≡ l.at + l.bare;
    }
