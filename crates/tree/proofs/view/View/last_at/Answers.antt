use native.Mathlib.Omega.{arith}
use Rattle.tree.specs.laws.lookup.FloorLeaf.{last_at_ready}
use Rattle.tree.proofs.view.View.last_at.Goals as goal

pub returns-clause-entry : goal.returns-clause-entry
returns-clause-entry c =
    let (some, is) = c.in_ok-index.ensures in
    rw is (last_at_ready _ c.args.self.tree _ _ _ _ c.count_at.ensures.0 (λ z. omega (arith, some)) _ c.args.self.ready)
