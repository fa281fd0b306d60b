use Rattle.std.proofs.Common.{◌≡◌, ◌+◌, ◌-◌, drop}
use Rattle.node.specs.Records.{records_length, entries_of}
use Rattle.node.specs.Find.{not_above}
use Rattle.node.proofs.slot.Records.not_above_from.Given as goal

abbrev pub invariant-loop-i : goal.invariant-loop-i
invariant-loop-i g l =
    let o = g.S.Sought.order in
    let k = g.S.Sought.wanted l.s in
    let i = l.i-iterator.index in
    record {
      same : l.i-iterator.records ≡ l.self;
      last : l.last ≡ records_length (i - 1) l.self.slot.now;
      above : i + not_above o k (drop i (entries_of l.self.count l.self.slot.now)) ≡ not_above o k (entries_of l.self.count l.self.slot.now);
    }
