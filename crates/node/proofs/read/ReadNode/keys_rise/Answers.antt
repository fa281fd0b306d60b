use Rattle.node.specs.laws.read.Keys.{rise_unkeyed, rise_falls}
use Rattle.node.proofs.read.ReadNode.keys_rise.Goals as goal
use Rattle.node.proofs.read.ReadNode.keys_rise.Goals.{then-not-keyed-via-then-not-keyed, then-not-keyed-via-else-not-keyed+then-not-rises}

pub returns-then-not-keyed : goal.returns-then-not-keyed
returns-then-not-keyed c =
    let v = c.loop-i.invariant in
    let k = rw (c.entry.ensures.0, c.entry.ensures.1) at c.key-key.ensures in
    elim c.then-not-keyed.branch [
      | then-not-keyed-via-then-not-keyed w ↦ rise_unkeyed _ _ _ _ _ v.hold c.loop-i-test.true _ k _ c.keyed.ensures w.if-not-keyed.true
      | then-not-keyed-via-else-not-keyed+then-not-rises w ↦ rise_falls _ _ _ _ _ v.hold c.loop-i-test.true _ k (λ q. q.now) c.loop-i.last v.rise _ w.rises.ensures w.if-not-rises.true
    ]
