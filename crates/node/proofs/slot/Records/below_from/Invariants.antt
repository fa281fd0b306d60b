use Rattle.std.proofs.Common.{◌≡◌, ◌+◌, drop}
use Rattle.node.specs.Records.{records_length, entries_of}
use Rattle.node.specs.Find.{place_of, is_there}
use Rattle.node.proofs.slot.Records.below_from.Given as goal

abbrev pub invariant-loop-i : goal.invariant-loop-i
invariant-loop-i g l =
    let o = g.S.Sought.order in
    let k = g.S.Sought.wanted l.s in
    let i = l.i-iterator.index in
    record {
      same : l.i-iterator.records ≡ l.self;
      start : l.at ≡ records_length i l.self.slot.now;
      place : i + place_of o k (drop i (entries_of l.self.count l.self.slot.now)) ≡ place_of o k (entries_of l.self.count l.self.slot.now);
      there : is_there o k (drop i (entries_of l.self.count l.self.slot.now)) ≡ is_there o k (entries_of l.self.count l.self.slot.now);
    }
