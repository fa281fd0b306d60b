-- A sum over a tree is a sum over its slots and what stands on disk below them. Assumes nothing.
use Rattle.std.specs.Prelude.{◌≡◌, List, [], ◌∷◌}
use Rattle.std.proofs.Math.Path.{refl, ap}
use Rattle.std.proofs.Common.{◌∙◌}
use Prim.Native.Nat.{ℕ, zero, suc, ◌+◌, ◌*◌, ◌≤◌, ◌<◌}
use Rattle.std.proofs.Math.Nat.{le_refl}
use native.Mathlib.Omega.{arith}
use Rattle.node.specs.Entry.{Entry, Val, ghost, leaf, disk, mem}
use Rattle.node.specs.Slot.{MemNode}
use Rattle.tree.specs.State.{no_node}
use Rattle.theorem.specs.model.Bounds.{Terms}
use Rattle.theorem.specs.model.Lazy.{sum_map, node_of, total, totals, names, slots, slots_in, names_same, frame}
use Rattle.theorem.specs.steps.Grow.{names_apart}
use Rattle.theorem.specs.flush.Writes.{by_mem}
use Rattle.theorem.specs.model.Sums.{sum_below, sum_same, sum_none, sum_plus, sum_but}

-- what a value adds that is no child in a slot; such a child adds what o says
unfoldable pub off_of : (Val → ℕ) → (ℕ → ℕ) → Val → ℕ
off_of t o ghost = t ghost
off_of t o (leaf v) = t (leaf v)
off_of t o (disk r) = t (disk r)
off_of t o (mem c) = o c

-- what stands on disk below a node of level l
unfoldable pub off : (ℕ → MemNode) → (ℕ → MemNode) → (MemNode → ℕ) → ℕ → MemNode → ℕ
off rd at f zero m = 0
off rd at f (suc l) m = sum_map (λ e. off_of (λ v. total rd at f l (node_of rd at v)) (λ c. off rd at f l (at c)) e.value) m.entries

-- the same of entries, whose children are of level l
abbrev pub offs : (ℕ → MemNode) → (ℕ → MemNode) → (MemNode → ℕ) → ℕ → List Entry → ℕ
offs rd at f l es = sum_map (λ e. off_of (λ v. total rd at f l (node_of rd at v)) (λ c. off rd at f l (at c)) e.value) es

pub off_none : (t : Val → ℕ) (o : ℕ → ℕ) (v : Val) → ((c : ℕ) → v ≡ mem c → ⊥) → off_of t o v ≡ t v
unfolding off_of
off_none t o ghost h = refl
off_none t o (leaf b) h = refl
off_none t o (disk r) h = refl
off_none t o (mem c) h = absurd (h c refl)

off_mem : (t : Val → ℕ) (o : ℕ → ℕ) (v : Val) (c : ℕ) → v ≡ mem c → off_of t o v ≡ o c
unfolding off_of
off_mem t o v c q = rw q

-- what stands on disk below a node is part of its sum
module _ (rd at : ℕ → MemNode) (f : MemNode → ℕ) where
  off_value : (l : ℕ) → ((m : MemNode) → off rd at f l m ≤ total rd at f l m) → (v : Val)
      → off_of (λ v. total rd at f l (node_of rd at v)) (λ c. off rd at f l (at c)) v ≤ total rd at f l (node_of rd at v)
  unfolding off_of node_of
  off_value l ih ghost = le_refl _
  off_value l ih (leaf b) = le_refl _
  off_value l ih (disk r) = le_refl _
  off_value l ih (mem c) = ih (at c)

  off_entries : (l : ℕ) → ((m : MemNode) → off rd at f l m ≤ total rd at f l m) → (es : List Entry) → offs rd at f l es ≤ totals rd at f l es
  off_entries l ih [] = le_refl _
  off_entries l ih (e ∷ es) = omega (arith, off_value l ih e.value, off_entries l ih es)

  pub off_total : (l : ℕ) (m : MemNode) → off rd at f l m ≤ total rd at f l m
  unfolding off total
  off_total zero m = omega arith
  off_total (suc l) m = let h = off_entries l (off_total l) m.entries in omega arith

  -- a child's part
  pub off_child : (l : ℕ) (v : Val) → off rd at f l (node_of rd at v) ≤ off_of (λ v. total rd at f l (node_of rd at v)) (λ c. off rd at f l (at c)) v
  unfolding off_of node_of
  off_child l ghost = off_total l no_node
  off_child l (leaf b) = off_total l no_node
  off_child l (disk r) = off_total l (rd r)
  off_child l (mem c) = le_refl _

-- one slot named once
pub sum_named : (f : ℕ → ℕ) (n c : ℕ) → c < n → sum_below (λ x. names x (mem c) * f x) n ≡ f c
sum_named f n c lt =
    let h = sum_but (λ x. names x (mem c) * f x) (λ x. 0) n c lt (λ x d. rw (names_apart x c d) (omega arith)) in
    let own : names c (mem c) * f c ≡ f c = rw (names_same c) (omega arith) in
    omega (arith, sum_none n)

-- at': the same slots with other blocks, ids and marks
module _ (τ : Terms) (rd at at' : ℕ → MemNode) (bare : (at : ℕ → MemNode) (r j d : ℕ) → slots rd at j d (rd r) ≡ 0)
    (same : (c : ℕ) → (at' c).entries ≡ (at c).entries) (f : MemNode → ℕ) (n : ℕ) where
  slots_none : (at : ℕ → MemNode) (l x : ℕ) → slots rd at l x no_node ≡ 0
  unfolding slots no_node
  slots_none at zero x = refl
  slots_none at (suc l) x = refl

  -- a value that is no child in a slot stands for a node with no slot at or below it
  bare_value : (at : ℕ → MemNode) (l : ℕ) (v : Val) → ((c : ℕ) → v ≡ mem c → ⊥) → (x : ℕ) → (names x v ≡ 0) × (slots rd at l x (node_of rd at v) ≡ 0)
  unfolding names node_of
  bare_value at l ghost h x = (refl, slots_none at l x)
  bare_value at l (leaf b) h x = (refl, slots_none at l x)
  bare_value at l (disk r) h x = (refl, bare at r l x)
  bare_value at l (mem c) h x = absurd (h c refl)

  same_value : (v : Val) → ((c : ℕ) → v ≡ mem c → ⊥) → node_of rd at' v ≡ node_of rd at v
  unfolding node_of
  same_value ghost h = refl
  same_value (leaf b) h = refl
  same_value (disk r) h = refl
  same_value (mem c) h = absurd (h c refl)

  node_mem : (at : ℕ → MemNode) (c : ℕ) → node_of rd at (mem c) ≡ at c
  unfolding node_of
  node_mem at c = refl

  -- the slots below entries
  abbrev Below : ℕ → List Entry → ℕ
  Below l es = sum_below (λ c. slots_in rd at l c es * f (at' c)) n

  abbrev Counted : ℕ → Type 0
  Counted l = (m m' : MemNode) → m'.entries ≡ m.entries → ((c : ℕ) → 1 ≤ slots rd at l c m → c < n)
      → total rd at' f l m' ≡ f m' + (sum_below (λ c. slots rd at l c m * f (at' c)) n + off rd at f l m)

  one_bare : (l : ℕ) (v : Val) → ((c : ℕ) → v ≡ mem c → ⊥)
      → total rd at' f l (node_of rd at' v) ≡ sum_below (λ c. (names c v + slots rd at l c (node_of rd at v)) * f (at' c)) n + total rd at f l
      (node_of rd at v)
  one_bare l v h =
      let z : sum_below (λ c. (names c v + slots rd at l c (node_of rd at v)) * f (at' c)) n ≡ 0 =
      sum_same (λ c. (names c v + slots rd at l c (node_of rd at v)) * f (at' c)) (λ c. 0) n
      (λ c lt. let (p, q) = bare_value at l v h c in rw (p, q) (omega arith)) ∙ sum_none n in
      let e : total rd at' f l (node_of rd at' v) ≡ total rd at' f l (node_of rd at v) = ap (total rd at' f l) (same_value v h) in
      let k : total rd at' f l (node_of rd at v) ≡ total rd at f l (node_of rd at v) =
      (frame τ rd at at' l (node_of rd at v) (λ c p. absurd (omega (arith, (bare_value at l v h c).1)))).sums f in
      omega (arith, z, e, k)

  one_mem : (l c : ℕ) (v : Val) → v ≡ mem c → Counted l → ((x : ℕ) → 1 ≤ names x v + slots rd at l x (node_of rd at v) → x < n)
      → total rd at' f l (node_of rd at' v) ≡ sum_below (λ x. (names x v + slots rd at l x (node_of rd at v)) * f (at' x)) n + off rd at f l (at c)
  one_mem l c v q ih used =
      let used' : (x : ℕ) → 1 ≤ names x (mem c) + slots rd at l x (at c) → x < n = λ x p. used x (rw (q, node_mem at c) p) in
      let t : total rd at' f l (node_of rd at' v) ≡ total rd at' f l (at' c) = ap (λ (z : Val). total rd at' f l (node_of rd at' z)) q
      ∙ ap (total rd at' f l) (node_mem at' c) in
      let i = ih (at c) (at' c) (same c) (λ x p. used' x (omega arith)) in
      let b : sum_below (λ x. (names x v + slots rd at l x (node_of rd at v)) * f (at' x)) n ≡ sum_below
      (λ x. names x (mem c) * f (at' x) + slots rd at l x (at c) * f (at' x)) n =
      sum_same _ _ n (λ x lt. rw (q, node_mem at c) (omega arith)) in
      let s = sum_plus (λ x. names x (mem c) * f (at' x)) (λ x. slots rd at l x (at c) * f (at' x)) n in
      let o = sum_named (λ x. f (at' x)) n c (used' c (omega (arith, names_same c))) in
      omega (arith, t, i, b, s, o)

  counted_in : (l : ℕ) → Counted l → (es : List Entry) → ((c : ℕ) → 1 ≤ slots_in rd at l c es → c < n)
      → totals rd at' f l es ≡ Below l es + offs rd at f l es
  counted_in l ih [] used =
      let z : Below l [] ≡ 0 = sum_same (λ c. 0 * f (at' c)) (λ c. 0) n (λ c lt. omega arith) ∙ sum_none n in
      omega (arith, z)
  counted_in l ih (e ∷ es) used =
      let r = counted_in l ih es (λ c p. used c (omega arith)) in
      let s = sum_plus (λ c. (names c e.value + slots rd at l c (node_of rd at e.value)) * f (at' c))
      (λ c. slots_in rd at l c es * f (at' c)) n in
      let b : Below l (e ∷ es) ≡ sum_below (λ c. (names c e.value + slots rd at l c (node_of rd at e.value)) * f
      (at' c) + slots_in rd at l c es * f (at' c)) n = sum_same _ _ n (λ c lt. omega arith) in
      by_mem e.value
      (λ h. omega (
        arith,
        one_bare l e.value h,
        off_none (λ v. total rd at f l (node_of rd at v)) (λ c. off rd at f l (at c))
            e.value h,
        r,
        s,
        b,
      ))
      (λ c q. omega (
        arith,
        one_mem l c e.value q ih (λ x p. used x (omega arith)),
        off_mem (λ v. total rd at f l (node_of rd at v))
            (λ c. off rd at f l (at c)) e.value c q,
        r,
        s,
        b,
      ))

  -- each slot as often as it stands below the node, and what is on disk
  pub counted : (l : ℕ) → Counted l
  unfolding total slots off
  counted zero m m' e used =
      let z : sum_below (λ c. 0 * f (at' c)) n ≡ 0 = sum_same (λ c. 0 * f (at' c)) (λ c. 0) n (λ c lt. omega arith) ∙ sum_none n in
      omega (arith, z)
  counted (suc l) m m' e used =
      let h : totals rd at' f l m'.entries ≡ totals rd at' f l m.entries = ap (totals rd at' f l) e in
      let k = counted_in l (counted l) m.entries used in
      omega (arith, h, k)
