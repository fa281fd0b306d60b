use native.Mathlib.Omega.{arith}
use Rattle.tree.specs.laws.lookup.FloorLeaf.{floor_at_ready}
use Rattle.tree.proofs.view.View.floor_at.Goals as goal

pub returns-clause-entry : goal.returns-clause-entry
returns-clause-entry c =
    let (some, is) = c.in_ok-index.ensures in
    rw is (floor_at_ready _ c.args.self.tree _ _ _ _ _ _ c.records.ensures.entries _ c.not_above-last.ensures (λ z. omega (arith, some)) _ c.args.self.ready)
