use Rattle.std.proofs.Common.{◌*◌}
use Rattle.node.specs.internal.Lead.{Comparing}
use Rattle.node.proofs.lead.byte_compare.Given as goal

abbrev pub invariant-loop-k : goal.invariant-loop-k
invariant-loop-k l = Comparing l.a l.b l.n (8 * l.k)

abbrev pub invariant-loop-i : goal.invariant-loop-i
invariant-loop-i l = Comparing l.a l.b l.n l.i
