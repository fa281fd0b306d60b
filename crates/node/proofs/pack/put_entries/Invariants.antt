use Rattle.node.specs.laws.pack.Steps.{Going}
use Rattle.node.proofs.pack.put_entries.Given as goal

abbrev pub invariant-loop : goal.invariant-loop
invariant-loop l = Going l.areas.info l.areas.keys l.areas.vals l.from.records.count l.from.heads.now l.from.by_id l.from.records.slot.now l.initial.block l.counter l.s l.block
