-- Sums over slots: a sum over the slots that nodes name is one over all slots, each as often as it is named, which is once at most. Assumes nothing.
use Rattle.std.specs.Prelude.{◌≡◌, refl, false, Bool, get_or, eqb, ltb}
use Rattle.std.proofs.Math.Path.{sym}
use Rattle.std.proofs.Common.{◌∙◌, mul-le-mul_right, arith}
use mathlib.Core.List.{List, [], ◌∷◌}
use Rattle.std.proofs.Math.Bool.{cond}
use Prim.Native.Nat.{ℕ, zero, suc, ◌+◌, ◌*◌, ◌≤◌, ◌<◌}
use Rattle.std.proofs.Math.ListN.{length}
use borrow.Author.Tests.{eqb-true, eqb-false, ltb-true, ltb-false}
use Rattle.node.specs.Entry.{Entry, Val, ghost, leaf, disk, mem}
use Rattle.node.specs.Slot.{MemNode}
use Rattle.node.specs.laws.base.Tests.{by_test}
use Rattle.tree.specs.State.{no_node, State, node_at}
use Rattle.tree.specs.Hold.{naming, named}
use Rattle.tree.specs.internal.Reach.{reach_kid, reach_kids, live_sum, dead_count}
use Rattle.tree.specs.laws.trust.Named.{names, names_same, names_other, naming_cons, own, live_used}
use Rattle.tree.specs.laws.trust.Stands.{Stands, root_names, stands_used}

-- ---- sums over the numbers below n

unfoldable pub sum_below : (ℕ → ℕ) → ℕ → ℕ
sum_below f zero = 0
sum_below f (suc n) = f n + sum_below f n

pub sum_le : (f g : ℕ → ℕ) (n : ℕ) → ((c : ℕ) → f c ≤ g c) → sum_below f n ≤ sum_below g n
unfolding sum_below
sum_le f g zero h = omega arith
sum_le f g (suc n) h = let i = sum_le f g n h in omega (arith, h n)

pub sum_same : (f g : ℕ → ℕ) (n : ℕ) → ((c : ℕ) → f c ≡ g c) → sum_below f n ≡ sum_below g n
unfolding sum_below
sum_same f g zero h = refl
sum_same f g (suc n) h = let i = sum_same f g n h in omega (arith, h n)

pub sum_none : (f : ℕ → ℕ) (n : ℕ) → ((c : ℕ) → f c ≡ 0) → sum_below f n ≡ 0
unfolding sum_below
sum_none f zero h = refl
sum_none f (suc n) h = let i = sum_none f n h in omega (arith, h n)

pub sum_plus : (f g : ℕ → ℕ) (n : ℕ) → sum_below (λ c. f c + g c) n ≡ sum_below f n + sum_below g n
unfolding sum_below
sum_plus f g zero = refl
sum_plus f g (suc n) = let i = sum_plus f g n in omega arith

sum_head : (f : ℕ → ℕ) (n : ℕ) → sum_below f (suc n) ≡ f 0 + sum_below (λ x. f (suc x)) n
unfolding sum_below
sum_head f zero = refl
sum_head f (suc n) = let i = sum_head f n in omega arith

-- a slot that is none of them
sum_far : (f : ℕ → ℕ) (n c : ℕ) → n ≤ c → sum_below (λ x. names x (mem c) * f x) n ≡ 0
unfolding sum_below
sum_far f zero c h = refl
sum_far f (suc n) c h =
    let i = sum_far f n c (omega arith) in
    let z : names n (mem c) * f n ≡ 0 = rw (names_other n c (λ e. omega arith)) (omega arith) in
    omega arith

-- one slot, named once
pub sum_named : (f : ℕ → ℕ) (n c : ℕ) → c < n → sum_below (λ x. names x (mem c) * f x) n ≡ f c
unfolding sum_below
sum_named f zero c h = absurd (omega arith)
sum_named f (suc n) c h =
    by_test (eqb c n)
    (λ t.
    let e : c ≡ n = eqb-true c n t in
    let i = sum_far f n c (omega arith) in
    let z : names n (mem c) * f n ≡ f c = rw (e, names_same n) (omega arith) in
    omega arith)
    (λ t.
    let d : c ≡ n → ⊥ = eqb-false c n t in
    let i = sum_named f n c (omega arith) in
    let z : names n (mem c) * f n ≡ 0 = rw (names_other n c (λ q. d (sym q))) (omega arith) in
    omega arith)

-- ---- a list of nodes, summed by its slots

pub live_slots : (f : MemNode → ℕ) (ms : List MemNode)
    → live_sum f ms ≡ sum_below (λ x. cond (get_or ms x no_node).dead 0 (f (get_or ms x no_node))) (length ms)
unfolding live_sum sum_below
live_slots f [] = refl
live_slots f (m ∷ ms) =
    let i = live_slots f ms in
    omega (arith, sum_head (λ x. cond (get_or (m ∷ ms) x no_node).dead 0 (f (get_or (m ∷ ms) x no_node))) (length ms))

-- ---- a sum over what is named

naming_nil : (c : ℕ) → naming c [] ≡ 0
unfolding naming
naming_nil c = refl

named_nil : (c : ℕ) → named c [] ≡ 0
unfolding named
named_nil c = refl

named_cons : (c : ℕ) (m : MemNode) (ms : List MemNode) → named c (m ∷ ms) ≡ own c m + named c ms
unfolding named
named_cons c m ms = refl

-- h: a number for each slot, 0 for what is no slot
module _ (n : ℕ) (h : ℕ → ℕ) (far : (c : ℕ) → n ≤ c → h c ≡ 0) where
  none_named : (f : ℕ → ℕ) → ((c : ℕ) → f c ≡ 0) → sum_below (λ c. f c * h c) n ≡ 0
  none_named f z = sum_none (λ c. f c * h c) n (λ c. rw (z c) (omega arith))

  two_named : (f g k : ℕ → ℕ) → ((c : ℕ) → k c ≡ f c + g c)
      → sum_below (λ c. k c * h c) n ≡ sum_below (λ c. f c * h c) n + sum_below (λ c. g c * h c) n
  two_named f g k z =
      sum_same (λ c. k c * h c) (λ c. f c * h c + g c * h c) n (λ c. rw (z c) (omega arith))
      ∙ sum_plus (λ c. f c * h c) (λ c. g c * h c) n

  kid_sum : (v : Val) → reach_kid h v ≡ sum_below (λ c. names c v * h c) n
  unfolding reach_kid names
  kid_sum ghost = sym (none_named (λ c. 0) (λ c. refl))
  kid_sum (leaf b) = sym (none_named (λ c. 0) (λ c. refl))
  kid_sum (disk r) = sym (none_named (λ c. 0) (λ c. refl))
  kid_sum (mem d) =
      by_test (ltb d n)
      (λ t. sym (sum_named h n d (ltb-true d n t)))
      (λ t. let k : n ≤ d = ltb-false d n t in far d k ∙ sym (sum_far h n d k))

  kids_sum : (es : List Entry) → reach_kids h es ≡ sum_below (λ c. naming c es * h c) n
  unfolding reach_kids
  kids_sum [] = sym (none_named (λ c. naming c []) naming_nil)
  kids_sum (e ∷ es) =
      let k = kids_sum es in
      omega (arith, kid_sum e.value, two_named (λ c. names c e.value) (λ c. naming c es) (λ c. naming c (e ∷ es)) (λ c. naming_cons c e es))

  own_sum : (m : MemNode) → cond m.dead 0 (reach_kids h m.entries) ≡ sum_below (λ c. own c m * h c) n
  own_sum m =
      by_test m.dead
      (λ t. rw t (sym (none_named (λ c. 0) (λ c. refl))))
      (λ t. rw t (kids_sum m.entries))

  -- each slot as often as it is named
  pub named_sum : (ms : List MemNode) → live_sum (λ m. reach_kids h m.entries) ms ≡ sum_below (λ c. named c ms * h c) n
  unfolding live_sum
  named_sum [] = sym (none_named (λ c. named c []) named_nil)
  named_sum (m ∷ ms) =
      let k = named_sum ms in
      omega (arith, own_sum m, two_named (λ c. own c m) (λ c. named c ms) (λ c. named c (m ∷ ms)) (λ c. named_cons c m ms))

-- ---- sums over lists of nodes

live_cond : (b : Bool) (x : ℕ) → b ≡ false → cond b 0 x ≡ x
live_cond b x h = rw h

live_plus : (f g : MemNode → ℕ) (ms : List MemNode) → live_sum (λ m. f m + g m) ms ≡ live_sum f ms + live_sum g ms
unfolding live_sum
live_plus f g [] = refl
live_plus f g (m ∷ ms) =
    let i = live_plus f g ms in
    by_test m.dead (λ t. rw t (omega arith)) (λ t. rw t (omega arith))

-- at most k for each live slot
pub live_most : (k : ℕ) (f : MemNode → ℕ) (ms : List MemNode) → ((n : ℕ) → (get_or ms n no_node).dead ≡ false → f (get_or ms n no_node) ≤ k)
    → live_sum f ms ≤ length ms * k
unfolding live_sum
live_most k f [] h = omega arith
live_most k f (m ∷ ms) h =
    let i = live_most k f ms (λ n d. h (suc n) d) in
    by_test m.dead (λ t. rw t (omega arith)) (λ t. omega (arith, h 0 t, live_cond m.dead (f m) t))

-- at most 1 for each: what is left over are the dead
pub live_dead : (f : MemNode → ℕ) (ms : List MemNode) → ((m : MemNode) → f m ≤ 1) → live_sum f ms + dead_count ms ≤ length ms
unfolding live_sum dead_count
live_dead f [] h = omega arith
live_dead f (m ∷ ms) h =
    let i = live_dead f ms h in
    by_test m.dead
    (λ t. rw t (omega arith))
    (λ t. let z : ◌≡◌ {A = ℕ} (cond m.dead 1 0) 0 = rw t in omega (arith, h m, live_cond m.dead (f m) t))

-- ---- sums over what entries name

kid_least : (g h : ℕ → ℕ) (v : Val) → ((c : ℕ) → 1 ≤ names c v → g c ≤ h c) → reach_kid g v ≤ reach_kid h v
unfolding reach_kid
kid_least g h ghost f = omega arith
kid_least g h (leaf b) f = omega arith
kid_least g h (disk r) f = omega arith
kid_least g h (mem c) f = f c (omega (arith, names_same c))

pub kids_least : (g h : ℕ → ℕ) (es : List Entry) → ((c : ℕ) → 1 ≤ naming c es → g c ≤ h c) → reach_kids g es ≤ reach_kids h es
unfolding reach_kids
kids_least g h [] f = omega arith
kids_least g h (e ∷ es) f =
    let a = kid_least g h e.value (λ c k. f c (omega (arith, naming_cons c e es))) in
    let b = kids_least g h es (λ c k. f c (omega (arith, naming_cons c e es))) in
    omega arith

-- ---- a number for each live slot that is at most its own share and the numbers of the slots that it names

-- a slot's number, 0 if it is dead
abbrev pub alive : State → (ℕ → ℕ) → ℕ → ℕ
alive s g c = cond (node_at s c).dead 0 (g c)

share : (a b x : ℕ) → a + b ≤ 1 → a * x + b * x ≤ x
share a b x h = let k : (a + b) * x ≤ 1 * x = mul-le-mul_right x h in omega arith

module _ (w v : ℕ → ℕ) (s : State) (f : MemNode → ℕ) (g : ℕ → ℕ) (st : Stands w v s)
    (step : (n : ℕ) → (node_at s n).dead ≡ false → g n ≤ f (node_at s n) + reach_kids (alive s g) (node_at s n).entries) where
  far : (c : ℕ) → length s.nodes ≤ c → alive s g c ≡ 0
  far c h =
      by_test (node_at s c).dead
      (λ t. rw t)
      (λ t. absurd (omega (arith, live_used s c t)))

  -- all numbers: all shares, and all that is named
  numbers : sum_below (alive s g) (length s.nodes) ≤ live_sum (λ m. f m + reach_kids (alive s g) m.entries) s.nodes
  unfolding node_at
  numbers =
      rw (live_slots (λ m. f m + reach_kids (alive s g) m.entries) s.nodes)
      (sum_le (alive s g) (λ n. cond (node_at s n).dead 0 (f (node_at s n) + reach_kids (alive s g) (node_at s n).entries)) (length s.nodes)
      (λ n. by_test (node_at s n).dead (λ t. rw t (omega arith)) (λ t. rw t (step n t))))

  -- what is named and the root: each slot once
  once_each : sum_below (λ c. named c s.nodes * alive s g c) (length s.nodes) + alive s g s.root ≤ sum_below (alive s g) (length s.nodes)
  unfolding names
  once_each =
      let n : ℕ = length s.nodes in
      let h : ℕ → ℕ = alive s g in
      let a = sum_plus (λ c. named c s.nodes * h c) (λ c. names c (mem s.root) * h c) n in
      let b = sum_named h n s.root (stands_used w v s st) in
      let k = sum_le (λ c. named c s.nodes * h c + names c (mem s.root) * h c) h n
      (λ c. share (named c s.nodes) (root_names c s) (h c) (st.once c)) in
      omega (arith, a, b, k)

  -- the root's number is at most the sum of all shares
  pub shares_most : g s.root ≤ live_sum f s.nodes
  shares_most =
      let r : alive s g s.root ≡ g s.root = rw st.root in
      let a = live_plus f (λ m. reach_kids (alive s g) m.entries) s.nodes in
      let b = named_sum (length s.nodes) (alive s g) far s.nodes in
      omega (arith, numbers, once_each, r, a, b)
