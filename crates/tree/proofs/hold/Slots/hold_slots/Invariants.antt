use Rattle.tree.specs.Workspace.{state_of}
use Rattle.tree.specs.internal.Holding.{hold_slots}
use Prim.Native.Nat.{◌-◌}
use mathlib.Core.Path.{◌≡◌}
use Rattle.tree.proofs.hold.Slots.hold_slots.Given as goal

abbrev pub invariant-loop-n : goal.invariant-loop-n
invariant-loop-n l = hold_slots l.self.lent.size l.self.heads.now l.self.bytes.now (state_of l.self.lent.size l.self.tree l.self.heads.now l.self.bytes.now) l.self.tree.used (l.self.tree.used - l.n) l.n l.marks
    ≡ hold_slots l.self.lent.size l.self.heads.now l.self.bytes.now (state_of l.self.lent.size l.self.tree l.self.heads.now l.self.bytes.now) l.self.tree.used l.self.tree.used 0 l.initial.marks
