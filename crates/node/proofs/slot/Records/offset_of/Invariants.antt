use Rattle.std.proofs.Common.{◌≡◌}
use Rattle.node.proofs.slot.Records.offset_of.Given as goal

abbrev pub invariant-loop : goal.invariant-loop
invariant-loop l = (l.walk.records ≡ l.self) × (l.walk.index ≡ l.counter)
