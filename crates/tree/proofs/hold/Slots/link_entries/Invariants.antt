use Rattle.std.specs.Prelude.{◌≡◌, drop}
use Rattle.node.specs.Records.{entries_of}
use Rattle.tree.specs.internal.Holding.{link_entries}
use Rattle.tree.proofs.hold.Slots.link_entries.Given as goal

abbrev pub invariant-loop-r : goal.invariant-loop-r
invariant-loop-r l =
    let es = entries_of l.records.count l.records.slot.now in
    record {
      same : l.r-iterator.records ≡ l.records;
      left : link_entries l.self.heads.now l.self.tree.used l.level (drop l.r-iterator.index es) l.marks ≡ link_entries l.self.heads.now l.self.tree.used l.level es l.initial.marks;
    }
