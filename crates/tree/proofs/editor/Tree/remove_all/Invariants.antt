use lib.ListN.{length}
use mathlib.Core.Path.{◌≡◌}
use Rattle.node.specs.Records.{entries_of}
use Rattle.tree.specs.internal.Dropping.{Removing}
use Rattle.tree.proofs.editor.Tree.remove_all.Given as goal

abbrev pub invariant-loop-r : goal.invariant-loop-r
invariant-loop-r l =
    let w = l.r-iterator in
    record {
      same : w.records ≡ l.fn.records;
      wide : length l.keys ≡ length l.initial.keys;
      at : Removing l.image l.lent (entries_of l.fn.records.count l.fn.records.slot.now) l.initial.t l.initial.heads l.initial.bytes l.t l.heads l.bytes w.index;
    }
