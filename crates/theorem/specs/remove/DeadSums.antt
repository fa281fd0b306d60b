-- Sums over dead slots: what a slot that dies, or one more slot, adds to them. Assumes nothing.
use Rattle.std.specs.Prelude.{◌≡◌, List, [], ◌∷◌, ◌++◌, Bool, true, false, cond, ℕ, zero, suc, ◌+◌, ◌≤◌, ◌<◌, length, get_or, set}
use Rattle.std.proofs.Math.Path.{refl}
use Rattle.std.proofs.Common.{ap₂, ◌∙◌, arith}
use Rattle.node.specs.Slot.{MemNode}
use Rattle.tree.specs.State.{State, no_node, node_at, put_node, add_node, with_nodes}
use Rattle.flush.specs.Flush.{dead_blocks}
use Rattle.history.specs.Statement.{uses}
use Rattle.theorem.specs.steps.EachSlotAfter.{uses_append}

-- what a slot adds: nothing unless it is dead
abbrev pub part : (MemNode → ℕ) → MemNode → ℕ
part f m = cond m.dead (f m) 0

unfoldable pub dead_sum : (MemNode → ℕ) → List MemNode → ℕ
dead_sum f [] = 0
dead_sum f (m ∷ ms) = part f m + dead_sum f ms

pub part_dead : (f : MemNode → ℕ) (m : MemNode) → m.dead ≡ true → part f m ≡ f m
part_dead f m h = rw h

pub part_live : (f : MemNode → ℕ) (m : MemNode) → m.dead ≡ false → part f m ≡ 0
part_live f m h = rw h

part_blocks : (a : ℕ) (m : MemNode) → uses a (cond m.dead m.block []) ≡ part (λ x. uses a x.block) m
part_blocks a m = of m.dead
  where
    of : (t : Bool) → uses a (cond t m.block []) ≡ cond t (uses a m.block) 0
    of true = refl
    of false = unfold uses in refl

pub dead_blocks_lem : (a : ℕ) (ms : List MemNode) → uses a (dead_blocks ms) ≡ dead_sum (λ x. uses a x.block) ms
unfolding dead_blocks dead_sum
dead_blocks_lem a [] = unfold uses in refl
dead_blocks_lem a (m ∷ ms) = uses_append a (cond m.dead m.block []) (dead_blocks ms) ∙ ap₂ ◌+◌ (part_blocks a m) (dead_blocks_lem a ms)

set_sum : (f : MemNode → ℕ) (ms : List MemNode) (n : ℕ) (m : MemNode) → n < length ms
    → dead_sum f (set ms n m) + part f (get_or ms n no_node) ≡ dead_sum f ms + part f m
unfolding dead_sum
set_sum f [] n m h = absurd (omega arith)
set_sum f (x ∷ ms) zero m h = omega arith
set_sum f (x ∷ ms) (suc n) m h = let i = set_sum f ms n m (omega arith) in omega arith

-- one slot replaced
pub put_sum : (f : MemNode → ℕ) (s : State) (n : ℕ) (m : MemNode) → n < length s.nodes
    → dead_sum f (put_node s n m).nodes + part f (node_at s n) ≡ dead_sum f s.nodes + part f m
unfolding put_node with_nodes node_at
put_sum f s n m h = set_sum f s.nodes n m h

append_sum : (f : MemNode → ℕ) (ms : List MemNode) (m : MemNode) → dead_sum f (ms ++ m ∷ []) ≡ dead_sum f ms + part f m
unfolding dead_sum
append_sum f [] m = omega arith
append_sum f (x ∷ ms) m = let i = append_sum f ms m in omega arith

-- one slot more
pub add_sum : (f : MemNode → ℕ) (s : State) (m : MemNode) → dead_sum f (add_node s m).nodes ≡ dead_sum f s.nodes + part f m
unfolding add_node with_nodes
add_sum f s m = append_sum f s.nodes m

-- slots that add what they added, and new ones that add nothing
grown_sum : (f : MemNode → ℕ) (ms ns : List MemNode) → length ms ≤ length ns
    → ((c : ℕ) → c < length ms → part f (get_or ns c no_node) ≡ part f (get_or ms c no_node))
    → ((c : ℕ) → length ms ≤ c → c < length ns → part f (get_or ns c no_node) ≡ 0)
    → dead_sum f ns ≡ dead_sum f ms
unfolding dead_sum
grown_sum f [] [] h p q = refl
grown_sum f [] (n ∷ ns) h p q =
    let a : part f n ≡ 0 = q 0 (omega arith) (omega arith) in
    let b = grown_sum f [] ns (omega arith) (λ c k. absurd (omega arith)) (λ c k j. q (suc c) (omega arith) (omega arith)) in
    omega arith
grown_sum f (m ∷ ms) [] h p q = absurd (omega arith)
grown_sum f (m ∷ ms) (n ∷ ns) h p q =
    let a : part f n ≡ part f m = p 0 (omega arith) in
    let b = grown_sum f ms ns (omega arith) (λ c k. p (suc c) (omega arith)) (λ c k j. q (suc c) (omega arith) (omega arith)) in
    omega arith

pub state_sum : (f : MemNode → ℕ) (s u : State) → length s.nodes ≤ length u.nodes
    → ((c : ℕ) → c < length s.nodes → part f (node_at u c) ≡ part f (node_at s c))
    → ((c : ℕ) → length s.nodes ≤ c → c < length u.nodes → (node_at u c).dead ≡ false)
    → dead_sum f u.nodes ≡ dead_sum f s.nodes
unfolding node_at
state_sum f s u h p q = grown_sum f s.nodes u.nodes h p (λ c k j. part_live f (node_at u c) (q c k j))
