-- In a tree that meets the invariant no slot is named twice: names counted over the slots are names counted over the tree. Assumes nothing.
use Rattle.std.specs.Prelude.{◌≡◌, List, [], ◌∷◌, Bool, true, false, length, get_or, leb, ltb, eqb}
use Rattle.std.proofs.Math.Path.{refl}
use Rattle.std.proofs.Common.{sym, ap, ◌∙◌, arith, le-leb, ltb-true, ltb-false}
use Rattle.std.proofs.Math.Bool.{cond}
use Prim.Native.Nat.{ℕ, zero, suc, ◌+◌, ◌*◌, ◌≤◌, ◌<◌}
use Rattle.std.proofs.Math.ListN.{get_or-eq_default}
use Rattle.node.specs.Entry.{Entry, mem}
use Rattle.node.specs.Slot.{MemNode}
use Rattle.node.specs.laws.base.Tests.{by_test, never, and_both}
use Rattle.tree.specs.State.{State, no_node, node_at}
use Rattle.tree.specs.laws.state.State.{by_val}
use Rattle.tree.specs.Hold as hold
use Rattle.history.specs.Statement.{Start}
use Rattle.theorem.specs.model.Bounds.{Terms, K, Items, nil, cons}
use Rattle.theorem.specs.model.Lazy.{sum_map, node_of, total, totals, names, slots, slots_in, names_same, Child, Ok}
use Rattle.theorem.specs.steps.Grow.{names_apart}
use Rattle.theorem.specs.flush.Writes.{naming}
use Rattle.theorem.specs.model.Sums.{sum_below, sum_same, sum_none, sum_plus, sum_but}
use Rattle.theorem.specs.flush.SlotSums.{counted}
use Rattle.theorem.specs.flush.Reach.{rows_bare}
use Rattle.theorem.specs.disk.Seen.{bare}
use Rattle.theorem.specs.model.Good.{found, Good}

-- ---- a list of slots, summed from its head and from its end

sum_head : (f : ℕ → ℕ) (n : ℕ) → sum_below f (suc n) ≡ f 0 + sum_below (λ x. f (suc x)) n
unfolding sum_below
sum_head f zero = refl
sum_head f (suc n) = omega (arith, sum_head f n)

pub sum_list : (f : MemNode → ℕ) (ms : List MemNode) → sum_map f ms ≡ sum_below (λ x. f (get_or ms x no_node)) (length ms)
unfolding sum_below
sum_list f [] = refl
sum_list f (m ∷ ms) = omega (arith, sum_list f ms, sum_head (λ x. f (get_or (m ∷ ms) x no_node)) (length ms))

-- ---- the same names, as refusal 1 counts them

naming_next : (c : ℕ) (e : Entry) (es : List Entry) → hold.naming c (e ∷ es) ≡ names c e.value + hold.naming c es
unfolding hold.naming names
naming_next c e es = by_val e.value (λ q. rw q) (λ b q. rw q) (λ r q. rw q) (λ d q. rw q)

naming_is : (c : ℕ) (es : List Entry) → hold.naming c es ≡ naming c es
unfolding hold.naming
naming_is c [] = refl
naming_is c (e ∷ es) = naming_next c e es ∙ ap (λ (z : ℕ). names c e.value + z) (naming_is c es)

-- a slot's names, none if it is dead
abbrev own : ℕ → MemNode → ℕ
own c m = cond m.dead 0 (naming c m.entries)

named_is : (c : ℕ) (ms : List MemNode) → hold.named c ms ≡ sum_map (own c) ms
unfolding hold.named
named_is c [] = refl
named_is c (m ∷ ms) = let h = named_is c ms in omega (arith, h, ap (λ (z : ℕ). cond m.dead 0 z) (naming_is c m.entries))

-- ---- a slot is named in the tree as often as it stands there

module _ (τ : Terms) (rd at : ℕ → MemNode) (c : ℕ) where
  abbrev held : MemNode → ℕ
  held m = naming c m.entries

  names_in : (l : ℕ) → ((lo hi : ℕ) (m : MemNode) → Ok τ rd at l lo hi m → total rd at held l m ≡ slots rd at l c m)
      → {lo hi : ℕ} {es : List Entry} → Items (K τ) (Child τ (Ok τ rd at l) (node_of rd at)) lo hi es
      → naming c es + totals rd at held l es ≡ slots_in rd at l c es
  names_in l ih (nil z) = refl
  names_in l ih (cons {m = m} {e = e} z p r) = omega (arith, ih (K τ e.key) m (node_of rd at e.value) p.ok, names_in l ih r)

  pub names_all : (l lo hi : ℕ) (m : MemNode) → Ok τ rd at l lo hi m → total rd at held l m ≡ slots rd at l c m
  unfolding total slots
  names_all zero lo hi m h = rows_bare τ c h.items
  names_all (suc l) lo hi m h = names_in l (names_all l) h.items

-- a slot that is not dead is in use
pub live_used : (s : State) (n : ℕ) → (node_at s n).dead ≡ false → n < length s.nodes
unfolding node_at no_node
live_used s n d =
    by_test (ltb n (length s.nodes))
    (λ t. ltb-true n (length s.nodes) t)
    (λ t. never {t = true} refl (sym (ap (λ (m : MemNode). m.dead) (get_or-eq_default s.nodes no_node (ltb-false n (length s.nodes) t)))
    ∙ d))

-- one slot named once
sum_named : (f : ℕ → ℕ) (n c : ℕ) → c < n → sum_below (λ x. names x (mem c) * f x) n ≡ f c
sum_named f n c lt =
    let h = sum_but (λ x. names x (mem c) * f x) (λ x. 0) n c lt (λ x d. rw (names_apart x c d) (omega arith)) in
    let own : names c (mem c) * f c ≡ f c = rw (names_same c) (omega arith) in
    omega (arith, sum_none n)

-- a test's number times another
cond_times : (b : Bool) (y : ℕ) → cond b 0 1 * y ≡ cond b 0 y
cond_times true y = omega arith
cond_times false y = omega arith

module _ (g : Start) (τ : Terms) (th : List ℕ) (s : State) (es : List Entry) (h : Good g τ th s es) (live : (node_at s s.root).dead ≡ false) where
  abbrev rd : ℕ → MemNode
  rd = found g τ

  abbrev at : ℕ → MemNode
  at = node_at s

  abbrev n : ℕ
  n = length s.nodes

  abbrev stands : ℕ → ℕ
  stands x = slots rd at h.level x (at s.root)

  used : (x : ℕ) → 1 ≤ stands x → x < n
  used x p = by_test (ltb x n) (λ t. ltb-true x n t) (λ t. absurd (omega (arith, h.out x (ltb-false x n t))))

  -- slot by slot: named by the nodes that are not dead, named by the tree
  slot_own : (c x : ℕ) → x < n → own c (at x) ≡ names x (mem s.root) * naming c (at x).entries + stands x * naming c (at x).entries
  slot_own c x lt =
      let y : ℕ = naming c (at x).entries in
      let o = ap (λ (z : ℕ). z * y) (h.once x lt) in
      omega (arith, o, cond_times (at x).dead y)

  list_own : (c : ℕ) → hold.named c s.nodes ≡ sum_below (λ x. own c (at x)) n
  unfolding node_at
  list_own c = named_is c s.nodes ∙ sum_list (own c) s.nodes

  named_most : (c : ℕ) → hold.named c s.nodes ≤ stands c
  named_most c =
      let f : ℕ → ℕ = λ x. naming c (at x).entries in
      let a = list_own c in
      let b = sum_same (λ x. own c (at x)) (λ x. names x (mem s.root) * f x + stands x * f x) n (slot_own c) in
      let d = sum_plus (λ x. names x (mem s.root) * f x) (λ x. stands x * f x) n in
      let e = sum_named f n s.root (live_used s s.root live) in
      let k = counted τ rd at at (λ at r j d. bare g.disk τ g.state.virtual at j d r) (λ x. refl) (λ m. naming c m.entries) n h.level
      (at s.root) (at s.root) refl used in
      let z = names_all τ rd at c h.level h.lo h.hi (at s.root) h.tree in
      omega (arith, a, b, d, e, k, z)

  -- the root counts as named once
  named_one : (c : ℕ) → c < n → hold.named c s.nodes + cond (eqb c s.root) 1 0 ≤ 1
  unfolding names
  named_one c lt =
      let o = h.once c lt in
      let k : cond (at c).dead 0 1 ≤ 1 = by_test (at c).dead (λ t. rw t (omega arith)) (λ t. rw t (omega arith)) in
      omega (arith, named_most c, o, k)

  once_below : (i : ℕ) → i ≤ n → hold.named_once s i ≡ true
  unfolding hold.named_once
  once_below zero lt = refl
  once_below (suc i) lt =
      and_both (leb (hold.named i s.nodes + cond (eqb i s.root) 1 0) 1) (hold.named_once s i)
      (le-leb (hold.named i s.nodes + cond (eqb i s.root) 1 0) 1 (named_one i (omega arith))) (once_below i (omega arith))

  pub named_once_lem : hold.named_once s n ≡ true
  named_once_lem = once_below n (omega arith)
