-- Who is whose child: a child of a slot in the tree stands below it, and a slot with a child on a way is on it. Assumes nothing.
use Rattle.std.specs.Prelude.{◌≡◌, List, [], ◌∷◌, ◌++◌, true, leb, eqb}
use Rattle.std.proofs.Math.Path.{refl, ap, ap₂}
use Rattle.std.proofs.Common.{sym, ◌∙◌, le_refl, leb-true, leb-false, eqb-true}
use Prim.Native.Nat.{ℕ, zero, suc, ◌+◌, ◌≤◌}
use native.Mathlib.Omega.{arith}
use Rattle.std.proofs.lemmas.Bool.{eqb-false}
use Rattle.node.specs.Entry.{Entry, Val, ghost, leaf, disk, mem}
use Rattle.node.specs.Slot.{MemNode}
use Rattle.node.specs.laws.base.Tests.{by_test, never}
use Rattle.tree.specs.State.{State, node_at}
use Rattle.tree.specs.laws.state.State.{by_val}
use Rattle.tree.specs.Lookup.{Step}
use Rattle.theorem.specs.model.Bounds.{Terms, K, Items, nil, cons, Row, value_sized}
use Rattle.theorem.specs.model.Lazy.{sum_map, node_of, names, slots, slots_in, names_same, Child, Ok}
use Rattle.theorem.specs.model.Lift.{apart_uses}
use Rattle.theorem.specs.steps.LeafAndKeys.{Once, Along, end, down}
use Rattle.theorem.specs.steps.Grow.{names_is, names_apart, mid, kid_ok, kid_once}
use Rattle.theorem.specs.steps.EachSlot.{on_way}

-- how often entries name slot d
abbrev pub namings : ℕ → List Entry → ℕ
namings d es = sum_map (λ e. names d e.value) es

module _ (τ : Terms) (rd at : ℕ → MemNode) where
  leaf_none : (d : ℕ) (v : Val) → value_sized τ v ≡ true → names d v ≡ 0
  unfolding value_sized names
  leaf_none d ghost h = refl
  leaf_none d (leaf v) h = refl
  leaf_none d (disk r) h = never h refl
  leaf_none d (mem c) h = never h refl

  leaf_names : (d : ℕ) {lo hi : ℕ} {es : List Entry} → Items (K τ) (Row τ) lo hi es → namings d es ≡ 0
  leaf_names d (nil e) = refl
  leaf_names d (cons {e = x} e p r) = let a = leaf_none d x.value p.value.sized in let b = leaf_names d r in omega arith

  index_names : (l d : ℕ) (es : List Entry) → namings d es ≤ slots_in rd at l d es
  index_names l d [] = le_refl 0
  index_names l d (e ∷ es) = let a = index_names l d es in omega arith

  -- a node's own children stand below it
  pub own_names : (l lo hi : ℕ) (m : MemNode) → Ok τ rd at l lo hi m → (d : ℕ) → namings d m.entries ≤ slots rd at l d m
  unfolding slots
  own_names zero lo hi m k d = let a = leaf_names d k.items in omega arith
  own_names (suc l) lo hi m k d = index_names l d m.entries

  names_mem : (c : ℕ) (v : Val) → 1 ≤ names c v → v ≡ mem c
  unfolding names
  names_mem c v h =
      by_val v
      (λ q. let z : 1 ≤ 0 = rw q at h in absurd (omega arith))
      (λ b q. let z : 1 ≤ 0 = rw q at h in absurd (omega arith))
      (λ r q. let z : 1 ≤ 0 = rw q at h in absurd (omega arith))
      (λ d q. by_test (eqb c d)
      (λ t. q ∙ ap mem (sym (eqb-true c d t)))
      (λ t. let z : 1 ≤ 0 = rw (q, t) at h in absurd (omega arith)))

  node_mem : (c : ℕ) → node_of rd at (mem c) ≡ at c
  unfolding node_of
  node_mem c = refl

  -- of entries, from what is so one level lower
  belows : (l c d : ℕ) → ((lo hi : ℕ) (m : MemNode) → Ok τ rd at l lo hi m → 1 ≤ slots rd at l c m → 1 ≤ slots rd at l d m)
      → 1 ≤ namings d (at c).entries
      → {lo hi : ℕ} {es : List Entry} → Items (K τ) (Child τ (Ok τ rd at l) (node_of rd at)) lo hi es → 1 ≤ slots_in rd at l c es
      → 1 ≤ slots_in rd at l d es
  belows l c d ih k (nil e) h = h
  belows l c d ih k (cons {m = m} {e = x} {es = es} e p r) h =
      by_test (leb 1 (slots_in rd at l c es))
      (λ t. let a = belows l c d ih k r (leb-true 1 _ t) in omega arith)
      (λ t. by_test (leb 1 (names c x.value))
      (λ v.
      let q : node_of rd at x.value ≡ at c = ap (node_of rd at) (names_mem c x.value (leb-true 1 _ v)) ∙ node_mem c in
      let a = own_names l (K τ x.key) m (node_of rd at x.value) p.ok d in
      let b : namings d (node_of rd at x.value).entries ≡ namings d (at c).entries = ap (λ (z : MemNode). namings d z.entries) q in
      omega arith)
      (λ v.
      let a = leb-false 1 (slots_in rd at l c es) t in
      let b = leb-false 1 (names c x.value) v in
      let z = ih (K τ x.key) m (node_of rd at x.value) p.ok (omega arith) in
      omega arith))

  -- a child of a slot below a node stands below that node
  pub below : (l lo hi : ℕ) (m : MemNode) → Ok τ rd at l lo hi m → (c d : ℕ) → 1 ≤ namings d (at c).entries → 1 ≤ slots rd at l c m
      → 1 ≤ slots rd at l d m
  unfolding slots
  below zero lo hi m k c d g h = absurd (omega arith)
  below (suc l) lo hi m k c d g h = belows l c d (λ a b n z y. below l a b n z c d g y) g k.items h

  pub below_all : (l c d : ℕ) → 1 ≤ namings d (at c).entries → {lo hi : ℕ} {es : List Entry}
      → Items (K τ) (Child τ (Ok τ rd at l) (node_of rd at)) lo hi es
      → 1 ≤ slots_in rd at l c es → 1 ≤ slots_in rd at l d es
  below_all l c d g k h = belows l c d (λ a b n z y. below l a b n z c d g y) g k h

module _ (τ : Terms) (rd : ℕ → MemNode) (s : State) where
  -- of a slot at or below slot n
  pub kid_below : (l n lo hi : ℕ) → Ok τ rd (node_at s) l lo hi (node_at s n) → (c d : ℕ) → 1 ≤ namings d (node_at s c).entries
      → 1 ≤ names c (mem n) + slots rd (node_at s) l c (node_at s n) → 1 ≤ slots rd (node_at s) l d (node_at s n)
  kid_below l n lo hi k c d g h =
      by_test (eqb c n)
      (λ t.
      let b : namings d (node_at s c).entries ≡ namings d (node_at s n).entries = ap (λ (z : ℕ). namings d (node_at s z).entries) (eqb-true c n t) in
      omega (arith, own_names τ rd (node_at s) l lo hi (node_at s n) k d))
      (λ t. below τ rd (node_at s) l lo hi (node_at s n) k c d g (omega (arith, names_apart c n (eqb-false c n t))))

  -- the top is nobody's child
  pub top_none : (l n lo hi : ℕ) → Ok τ rd (node_at s) l lo hi (node_at s n) → Once τ rd s l n → (c : ℕ)
      → 1 ≤ names c (mem n) + slots rd (node_at s) l c (node_at s n)
      → 1 ≤ namings n (node_at s c).entries → ⊥
  top_none l n lo hi k one c h g = omega (arith, kid_below l n lo hi k c n g h, one.once n, names_same n)

  pub apart : (l n c : ℕ) (xs : List Entry) (e : Entry) (ys : List Entry) → (node_at s n).entries ≡ xs ++ e ∷ ys → e.value ≡ mem c → (d : ℕ)
      → slots rd (node_at s) (suc l) d (node_at s n) ≡ slots_in rd (node_at s) l d xs + (names d (mem c) + slots rd (node_at s) l d
      (node_at s c) + slots_in rd (node_at s) l d ys)
  unfolding node_of
  apart l n c xs e ys row val d =
      let node : node_of rd (node_at s) e.value ≡ node_at s c = rw val in
      apart_uses rd (node_at s) l (node_at s n) xs e ys row d
      ∙ ap₂ (λ (v : Val) (m : MemNode). slots_in rd (node_at s) l d xs + (names d v + slots rd (node_at s) l d m + slots_in rd
      (node_at s) l d ys)) val node

  -- a slot on a way stands in the tree
  pub on_stands : (T : List Entry → Entry → List Entry → Type 0) (foot l n : ℕ) (ps : List Step) → Along s T foot l n ps → (d : ℕ)
      → on_way d ps ≤ names d (mem n) + slots rd (node_at s) l d (node_at s n)
  unfolding slots
  on_stands T foot _ _ _ end d = omega arith
  on_stands T foot _ _ _ (down {l = l} {n = n} {c = c} {xs = xs} {e = e} {ys = ys} {ps = ps} row val to w) d =
      omega (arith, on_stands T foot l c ps w d, apart l n c xs e ys row val d)

  -- a slot whose child is on the way, below its top, is on the way
  pub on_parent : (T : List Entry → Entry → List Entry → Type 0) (foot l n : ℕ) (ps : List Step) → Along s T foot l n ps → (lo hi : ℕ)
      → Ok τ rd (node_at s) l lo hi (node_at s n) → Once τ rd s l n
      → (c d : ℕ) → 1 ≤ names c (mem n) + slots rd (node_at s) l c (node_at s n) → 1 ≤ namings d (node_at s c).entries → 1 ≤ on_way d ps → (d ≡ n → ⊥)
      → 1 ≤ on_way c ps
  on_parent T foot _ _ _ end lo hi k one c d st g on f = absurd (omega (arith, names_apart d foot f))
  on_parent T foot _ _ _ (down {l = l} {n = n} {c = b} {xs = xs} {e = e} {ys = ys} {ps = ps} row val to w) lo hi k one c d st g on f =
      let kb = kid_ok τ rd s l n b lo hi xs e ys row val one k in
      let ob = kid_once τ rd s l n b lo hi xs e ys row val one k in
      let pt = mid τ rd s l n b lo hi xs e ys row val one k in
      let on' : 1 ≤ on_way d ps = omega (arith, names_apart d n f) in
      let db = on_stands T foot l b ps w d in
      let sd = apart l n b xs e ys row val d in
      let sc = apart l n b xs e ys row val c in
      by_test (leb 1 (names c (mem n)))
      (λ t. let z = leb-true 1 (names c (mem n)) t in omega arith)
      (λ t.
      let z = leb-false 1 (names c (mem n)) t in
      by_test (leb 1 (names c (mem b) + slots rd (node_at s) l c (node_at s b)))
      (λ v.
      let y = leb-true 1 (names c (mem b) + slots rd (node_at s) l c (node_at s b)) v in
      by_test (eqb d b)
      (λ q.
      let dq : d ≡ b = eqb-true d b q in
      absurd (omega (arith, kid_below l b (K τ e.key) pt.up_to kb c d g y, ob.once d, names_is d b dq)))
      (λ q. let r = on_parent T foot l b ps w (K τ e.key) pt.up_to kb ob c d y g on' (eqb-false d b q) in omega arith))
      (λ v.
      let y = leb-false 1 (names c (mem b) + slots rd (node_at s) l c (node_at s b)) v in
      by_test (leb 1 (slots_in rd (node_at s) l c xs))
      (λ q. absurd (omega (arith, below_all τ rd (node_at s) l c d g pt.left (leb-true 1 _ q), one.once d)))
      (λ q.
      let x = leb-false 1 (slots_in rd (node_at s) l c xs) q in
      absurd (omega (arith, below_all τ rd (node_at s) l c d g pt.right (omega arith), one.once d)))))
