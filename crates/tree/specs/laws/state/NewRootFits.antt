-- Refusal 15 from two lengths and a level, before a slot is taken; sums that are cut off above a limit. Assumes nothing.
use Rattle.std.specs.Prelude.{◌≡◌, refl, List, [], ◌∷◌, true, cond, ◌&&◌, ℕ, zero, suc, ◌+◌, ◌≤◌, ◌<◌, length, take, drop, leb}
use Rattle.std.proofs.Common.{sym, ap, ap₂, ◌∙◌, arith, leb-true, leb-false, le-leb}
use Rattle.node.specs.Entry.{Entry, mem, value_length}
use Rattle.node.specs.Find.{key_at}
use Rattle.node.specs.Fit.{padded, keys_length, values_length, room_of, fits_sums, fits}
use Rattle.node.specs.Slot.{MemNode}
use Rattle.node.specs.declared.info.BTreeInfo.{BTreeInfo}
use Rattle.node.specs.laws.base.Tests.{by_test, leb_same}
use Rattle.tree.specs.State.{State, node_at, put_node, add_node, with_nodes, changed, made}
use Rattle.tree.specs.Edit.{parted, root_entries, new_root_holds}
use Rattle.tree.specs.laws.state.Edit.{parted_left, parted_right}

-- ---- 15

first_left : (c : ℕ) (es : List Entry) → 1 ≤ c → key_at (take c es) 0 ≡ key_at es 0
unfolding key_at
first_left zero es h = absurd (omega arith)
first_left (suc c) [] h = refl
first_left (suc c) (e ∷ es) h = refl

first_right : (c : ℕ) (es : List Entry) → key_at (drop c es) 0 ≡ key_at es c
unfolding key_at
first_right zero es = refl
first_right (suc c) [] = refl
first_right (suc c) (e ∷ es) = first_right c es

-- what a root over two children takes
unfoldable pub root_room : BTreeInfo → ℕ → ℕ → ℕ
root_room t a b = padded t a + padded t b + (padded t 8 + padded t 8)

two_room : (t : BTreeInfo) (n r : ℕ) (a b : List ℕ)
    → room_of t (record { key = a; value = mem n } ∷ record { key = b; value = mem r } ∷ []) ≡ root_room t (length a) (length b)
unfolding room_of keys_length values_length value_length root_room
two_room t n r a b = omega arith

parted_info : (s : State) (n c : ℕ) → (parted s n c).info ≡ s.info
unfolding parted add_node put_node with_nodes
parted_info s n c = refl

-- slot n cut after c entries: the new root holds by the lengths of its first key and of the first key cut off, and by its level
pub new_root_sums : (s : State) (n c : ℕ) → n < length s.nodes → 1 ≤ c
    → new_root_holds (parted s n c) n (length s.nodes)
    ≡ fits_sums s.info true (suc (node_at s n).level) 2
    (root_room s.info (length (key_at (node_at s n).entries 0)) (length (key_at (node_at s n).entries c))) && leb (suc (node_at s n).level) 32
unfolding new_root_holds root_entries fits changed made
new_root_sums s n c h k =
    let t : State = parted s n c in
    let r : ℕ = length s.nodes in
    let es : List Entry = (node_at s n).entries in
    let a : key_at (node_at t n).entries 0 ≡ key_at es 0 = ap (λ (m : MemNode). key_at m.entries 0) (parted_left s n c h) ∙ first_left c es k in
    let b : key_at (node_at t r).entries 0 ≡ key_at es c = ap (λ (m : MemNode). key_at m.entries 0) (parted_right s n c h) ∙ first_right c es in
    let lv : (node_at t n).level ≡ (node_at s n).level = ap (λ (m : MemNode). m.level) (parted_left s n c h) in
    let i : t.info ≡ s.info = parted_info s n c in
    rw (a, b, lv, i, two_room s.info n r (key_at es 0) (key_at es c))

-- ---- sums cut off above a limit

-- a number, or one more than the limit if it is above
unfoldable pub capped : ℕ → ℕ → ℕ
capped m n = cond (leb n m) n (suc m)

pub capped_small : (m n : ℕ) → n ≤ m → capped m n ≡ n
unfolding capped
capped_small m n h = rw (le-leb n m h)

pub capped_large : (m n : ℕ) → m < n → capped m n ≡ suc m
unfolding capped
capped_large m n h = by_test (leb n m) (λ t. absurd (omega (arith, leb-true n m t))) (λ t. rw t)

pub capped_most : (m n : ℕ) → capped m n ≤ suc m
capped_most m n = by_test (leb n m) (λ t. let h = leb-true n m t in omega (arith, capped_small m n h))
    (λ t. let h = leb-false n m t in omega (arith, capped_large m n h))

-- above the limit exactly when the whole is
pub capped_test : (m n : ℕ) → leb (capped m n) m ≡ leb n m
capped_test m n =
    by_test (leb n m)
    (λ t. let h = leb-true n m t in ap (λ (x : ℕ). leb x m) (capped_small m n h))
    (λ t. let h = leb-false n m t in leb_same (capped m n) m n m (λ k. absurd (omega (arith, capped_large m n h))) (λ k. absurd (omega arith)))

-- a sum of two, each cut off first
pub capped_both : (m a b : ℕ) → capped m (capped m a + capped m b) ≡ capped m (a + b)
capped_both m a b =
    by_test (leb (a + b) m)
    (λ t.
    let h : a + b ≤ m = leb-true (a + b) m t in
    let x : capped m a ≡ a = capped_small m a (omega arith) in
    let y : capped m b ≡ b = capped_small m b (omega arith) in
    ap₂ (λ (i j : ℕ). capped m (i + j)) x y)
    (λ t.
    let h : m < a + b = leb-false (a + b) m t in
    capped_large m (capped m a + capped m b)
    (by_test (leb a m)
    (λ u. by_test (leb b m)
    (λ v. let i = leb-true a m u in let j = leb-true b m v in omega (arith, capped_small m a i, capped_small m b j))
    (λ v. let j = leb-false b m v in omega (arith, capped_large m b j)))
    (λ u. let i = leb-false a m u in omega (arith, capped_large m a i)))
    ∙ sym (capped_large m (a + b) h))

-- what was counted so far, cut off, and the rest
pub capped_add : (m a b : ℕ) → capped m (capped m a + b) ≡ capped m (a + b)
capped_add m a b =
    by_test (leb a m)
    (λ t. ap (λ (x : ℕ). capped m (x + b)) (capped_small m a (leb-true a m t)))
    (λ t. let h = leb-false a m t in
    capped_large m (capped m a + b) (omega (arith, capped_large m a h)) ∙ sym (capped_large m (a + b) (omega arith)))

-- a partial sum above the limit settles the whole
pub capped_stop : (m a b : ℕ) → m < a → capped m (a + b) ≡ suc m
capped_stop m a b h = capped_large m (a + b) (omega arith)
