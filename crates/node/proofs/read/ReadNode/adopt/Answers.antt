use native.Mathlib.Omega.{arith}
use mathlib.Core.Path.{◌≡◌, sym}
use Rattle.node.specs.laws.read.Accepted.{adopted_length, adopted_most}
use Rattle.node.proofs.read.ReadNode.adopt.Goals as goal

pub returns-clause-used : goal.returns-clause-used
returns-clause-used c =
    let e : c.loop-i.i ≡ c.args.self.node.nkeys = omega arith in
    let n = rw e at c.loop-i.invariant in
    (adopted_length _ _ _ _ c.args.self.bytes c.args.self.sound n.2 _ (sym n.1), grind (arith, adopted_most))
