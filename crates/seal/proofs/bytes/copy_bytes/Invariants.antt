use Prim.Native.Nat.{◌-◌, ◌≤◌}
use mathlib.Core.Path.{◌≡◌}
use lib.ListN.{length, take}
use Rattle.seal.specs.Bytes.{splice}
use Rattle.seal.proofs.bytes.copy_bytes.Given as goal

abbrev pub invariant-loop-k : goal.invariant-loop-k
invariant-loop-k l = (l.k ≤ length l.src) × (length l.dst ≡ length l.initial.dst) × (l.dst ≡ splice l.initial.dst l.at (take l.k l.src))

abbrev pub decreases-loop-k : goal.decreases-loop-k
decreases-loop-k l = length l.src - l.k
