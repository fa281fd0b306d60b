use mathlib.Core.Path.{◌≡◌}
use Prim.Native.Nat.{◌+◌, ◌-◌, ◌%◌, ◌<◌}
use Rattle.flush.specs.Space.{first_free}
use Rattle.flush.proofs.space.first_free.Given as goal

abbrev pub invariant-loop-i : goal.invariant-loop-i
invariant-loop-i l = (l.i % 8 ≡ 0) × (l.i < l.n + 8) × (first_free l.bitmap (l.n - l.i) (l.a + l.i) ≡ first_free l.bitmap l.n l.a)

abbrev pub decreases-loop-i : goal.decreases-loop-i
decreases-loop-i l = l.n - l.i
