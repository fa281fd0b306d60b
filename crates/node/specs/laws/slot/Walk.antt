-- Laws of a walk over a slot's records. Assumes nothing.
use Rattle.std.specs.Prelude.{◌≡◌, ℕ, ◌+◌, ◌<◌, Option, Some, None}
use Rattle.std.proofs.Common.{arith}
use Rattle.node.specs.internal.Walk.{GivesRecord}
use Rattle.node.specs.declared.record.Record.{Record}
use Rattle.node.specs.declared.walk.Walk.{Walk}

-- a walk that has not come to its end goes on
pub goes_on : (s : Walk) (r : Option (ℕ × Record)) (t : Walk) → GivesRecord s r t → s.index < s.records.count
    → (t.records ≡ s.records) × (t.index ≡ s.index + 1)
goes_on s None t g h = absurd (omega arith)
goes_on s (Some x) t g h = (g.records, g.next)
