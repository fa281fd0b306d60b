use Rattle.std.proofs.Common.{◌≡◌, ◌≤◌, length}
use Rattle.node.specs.Records.{records_length}
use Rattle.node.proofs.slot.records_hold.Given as goal

abbrev pub invariant-loop-i : goal.invariant-loop-i
invariant-loop-i l =
    record {
      start : l.at ≡ records_length l._i l.slot;
      within : l.at ≤ length l.slot;
    }
