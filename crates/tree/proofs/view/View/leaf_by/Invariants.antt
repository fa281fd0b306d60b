use Rattle.std.specs.Prelude.{Some}
use Rattle.tree.specs.internal.Loaded.{Leading}
use Prim.Native.Nat.{◌-◌}
use Rattle.tree.proofs.view.View.leaf_by.Given as goal

abbrev pub invariant-loop-i : goal.invariant-loop-i
invariant-loop-i g l =
    Leading (λ n t. goal.F-post g l.step n (Some t)) l.level l.self.tree.root (l.level - l._i) l.n
