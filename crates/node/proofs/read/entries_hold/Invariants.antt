use Prim.Native.Nat.{◌-◌, ◌≤◌}
use mathlib.Core.Path.{◌≡◌}
use Rattle.node.specs.laws.read.Read.{rest_holds}
use Rattle.node.proofs.read.entries_hold.Given as goal

abbrev pub invariant-loop-i : goal.invariant-loop-i
invariant-loop-i l = (l.sum ≤ l.space) × (rest_holds l.node l.block 0 l.n 0 l.space ≡ rest_holds l.node l.block l.i (l.n - l.i) l.sum l.space)
