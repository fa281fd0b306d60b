use Prim.Native.Nat.{◌+◌, ◌*◌}
use mathlib.Core.Path.{◌≡◌}
use lib.ListN.{length}
use Rattle.seal.specs.Bytes.{splice}
use Rattle.node.specs.Records.{records_of}
use Rattle.node.specs.Read.{spans_length, entries_from}
use Rattle.node.proofs.read.ReadNode.adopt.Given as goal

abbrev pub invariant-loop-i : goal.invariant-loop-i
invariant-loop-i l = (l.at ≡ 4 * l.i + spans_length l.self.node l.self.block.now 0 l.i) × (length (records_of (entries_from l.self.node l.self.block.now 0 l.i)) ≡ l.at) × (l.slot ≡ splice l.initial.slot 0 (records_of (entries_from l.self.node l.self.block.now 0 l.i)))
