use Prim.Native.Nat.{◌-◌, ◌≤◌}
use mathlib.Core.List.{◌++◌}
use mathlib.Core.Path.{◌≡◌}
use Rattle.flush.specs.internal.Walk.{Listed}
use Rattle.flush.specs.internal.Lists.{numbers_of, Past, dead_places, dead_names}
use Rattle.flush.proofs.flush.Reports.list_dead.Given as goal

abbrev pub invariant-loop-n : goal.invariant-loop-n
invariant-loop-n l = (l.n ≤ l.t.used) × (l.f ≤ l.n) × (l.r ≤ l.n) × Listed l.initial.self l.self
    × (numbers_of l.f l.self.freed.now ++ dead_places l.heads (l.t.used - l.n) l.n ≡ dead_places l.heads l.t.used 0)
    × (numbers_of l.r l.self.removed.now ++ dead_names l.t.by_id l.heads (l.t.used - l.n) l.n ≡ dead_names l.t.by_id l.heads l.t.used 0)
    × Past l.f l.initial.self.freed.now l.self.freed.now × Past l.r l.initial.self.removed.now l.self.removed.now
    × (l.self.done ≡ l.initial.self.done)
