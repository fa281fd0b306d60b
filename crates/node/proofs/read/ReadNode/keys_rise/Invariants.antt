use Prim.Native.Nat.{◌-◌}
use mathlib.Core.Path.{◌≡◌}
use Rattle.node.specs.Order.{keyed}
use Rattle.node.specs.Entry.{every, rising}
use Rattle.node.specs.Read.{entries_from}
use Rattle.node.specs.laws.order.Rising.{Rises}
use Rattle.node.proofs.read.ReadNode.keys_rise.Given as goal

abbrev pub invariant-loop-i : goal.invariant-loop-i
invariant-loop-i l =
    let o = l.order.code in
    let n = l.self.node.nkeys in
    let all = entries_from l.self.node l.self.block.now 0 n in
    let left = entries_from l.self.node l.self.block.now l.i (n - l.i) in
    record {
      hold : every (λ e. keyed o e.key) all ≡ every (λ e. keyed o e.key) left;
      rise : Rises o (λ k. k.now) l.last left (rising o all);
    }
