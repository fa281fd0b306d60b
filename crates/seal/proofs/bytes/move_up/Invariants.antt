use Prim.Native.Nat.{◌≤◌, ◌-◌, ◌+◌}
use mathlib.Core.Path.{◌≡◌}
use lib.ListN.{length}
use Rattle.seal.specs.Bytes.{moved}
use Rattle.seal.proofs.bytes.move_up.Given as goal

abbrev pub invariant-loop-k : goal.invariant-loop-k
invariant-loop-k l = (l.k ≤ l.n) × (length l.s ≡ length l.initial.s) × (l.s ≡ moved l.initial.s (l.a + l.k) (l.b + l.k) (l.n - l.k))

abbrev pub decreases-loop-k : goal.decreases-loop-k
decreases-loop-k l = l.k
