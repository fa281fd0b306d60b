-- Sums over slots: those that are reached from a slot, and all that are not dead.
use Rattle.std.specs.Prelude.{List, [], ◌∷◌, cond, ℕ, zero, suc, ◌+◌}
use Rattle.node.specs.Entry.{Entry, Val, ghost, leaf, disk, mem}
use Rattle.node.specs.Slot.{MemNode}
use Rattle.tree.specs.State.{State, node_at}

-- what a value adds: the number of the slot that it holds, if any
unfoldable pub reach_kid : (ℕ → ℕ) → Val → ℕ
reach_kid f ghost = 0
reach_kid f (leaf v) = 0
reach_kid f (disk r) = 0
reach_kid f (mem c) = f c

unfoldable pub reach_kids : (ℕ → ℕ) → List Entry → ℕ
reach_kids f [] = 0
reach_kids f (e ∷ es) = reach_kid f e.value + reach_kids f es

-- a sum over the nodes reached from slot n, d levels down
unfoldable pub reach_sum : (MemNode → ℕ) → ℕ → State → ℕ → ℕ
reach_sum f zero s n = f (node_at s n)
reach_sum f (suc d) s n = f (node_at s n) + reach_kids (reach_sum f d s) (node_at s n).entries

-- a sum over the nodes that are not dead
unfoldable pub live_sum : (MemNode → ℕ) → List MemNode → ℕ
live_sum f [] = 0
live_sum f (m ∷ ms) = cond m.dead 0 (f m) + live_sum f ms

-- how many are dead
unfoldable pub dead_count : List MemNode → ℕ
dead_count [] = 0
dead_count (m ∷ ms) = cond m.dead 1 0 + dead_count ms
