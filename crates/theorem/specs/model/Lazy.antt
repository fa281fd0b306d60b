-- The tree that slots and the disk as it was opened stand for: a child in a slot is that slot's node, a child on disk is the node that a load would
-- bring.
-- What it holds, how often each slot stands in it, and that its keys rise within bounds: each by recursion on the level. Assumes nothing.
use Rattle.std.specs.Prelude.{◌≡◌, List, [], ◌∷◌, ◌++◌, true, false, cond, eqb}
use Rattle.std.proofs.Math.Path.{refl, ap}
use Rattle.std.proofs.Common.{ap₂, append_assoc, arith, eq-eqb}
use Prim.Native.Nat.{ℕ, zero, suc, ◌+◌, ◌≤◌, ◌<◌}
use Rattle.node.specs.Entry.{Entry, Val, ghost, leaf, disk, mem}
use Rattle.node.specs.Slot.{MemNode, is_child}
use Rattle.tree.specs.State.{no_node}
use Rattle.theorem.specs.model.Bounds.{Terms, K, Items, nil, cons, low, high, append, tight, bounds, first_or, KeyOk, Row, rows_le}

-- ---- lists

abbrev pub sum_map : {A : Type 0} → (A → ℕ) → List A → ℕ
sum_map f [] = 0
sum_map f (x ∷ xs) = f x + sum_map f xs

abbrev pub concat_map : {A B : Type 0} → (A → List B) → List A → List B
concat_map f [] = []
concat_map f (x ∷ xs) = f x ++ concat_map f xs

pub sum_append : {A : Type 0} (f : A → ℕ) (xs ys : List A) → sum_map f (xs ++ ys) ≡ sum_map f xs + sum_map f ys
sum_append f [] ys = omega arith
sum_append f (x ∷ xs) ys = let h = sum_append f xs ys in omega arith

pub concat_append : {A B : Type 0} (f : A → List B) (xs ys : List A) → concat_map f (xs ++ ys) ≡ concat_map f xs ++ concat_map f ys
concat_append f [] ys = refl
concat_append f (x ∷ xs) ys = rw (concat_append f xs ys, append_assoc)

-- ---- the node that a value stands for. rd: what a load brings; at: the slots

unfoldable pub node_of : (ℕ → MemNode) → (ℕ → MemNode) → Val → MemNode
node_of rd at ghost = no_node
node_of rd at (leaf v) = no_node
node_of rd at (disk r) = rd r
node_of rd at (mem c) = at c

-- the entries of the leaves below a node of level l
unfoldable pub cont : (ℕ → MemNode) → (ℕ → MemNode) → ℕ → MemNode → List Entry
cont rd at zero m = m.entries
cont rd at (suc l) m = concat_map (λ e. cont rd at l (node_of rd at e.value)) m.entries

-- a sum over a node of level l and the nodes below it
unfoldable pub total : (ℕ → MemNode) → (ℕ → MemNode) → (MemNode → ℕ) → ℕ → MemNode → ℕ
total rd at f zero m = f m
total rd at f (suc l) m = f m + sum_map (λ e. total rd at f l (node_of rd at e.value)) m.entries

-- whether a value names slot c
unfoldable pub names : ℕ → Val → ℕ
names c ghost = 0
names c (leaf v) = 0
names c (disk r) = 0
names c (mem d) = cond (eqb c d) 1 0

-- how often slot c stands below a node of level l
unfoldable pub slots : (ℕ → MemNode) → (ℕ → MemNode) → ℕ → ℕ → MemNode → ℕ
slots rd at zero c m = 0
slots rd at (suc l) c m = sum_map (λ e. names c e.value + slots rd at l c (node_of rd at e.value)) m.entries

-- the same of entries, whose children are of level l
abbrev pub conts : (ℕ → MemNode) → (ℕ → MemNode) → ℕ → List Entry → List Entry
conts rd at l es = concat_map (λ e. cont rd at l (node_of rd at e.value)) es

abbrev pub totals : (ℕ → MemNode) → (ℕ → MemNode) → (MemNode → ℕ) → ℕ → List Entry → ℕ
totals rd at f l es = sum_map (λ e. total rd at f l (node_of rd at e.value)) es

abbrev pub slots_in : (ℕ → MemNode) → (ℕ → MemNode) → ℕ → ℕ → List Entry → ℕ
slots_in rd at l c es = sum_map (λ e. names c e.value + slots rd at l c (node_of rd at e.value)) es

pub names_same : (c : ℕ) → names c (mem c) ≡ 1
unfolding names
names_same c = rw (eq-eqb c c refl)

pub names_other : (c d : ℕ) → names c (mem d) ≡ 0 → c ≡ d → ⊥
unfolding names
names_other c d h e =
    let t : eqb c d ≡ true = eq-eqb c d e in
    let q : ◌≡◌ {A = ℕ} 1 0 = rw t at h in
    omega arith

-- ---- keys that rise within bounds, at every level

pub record Level (τ : Terms) (P : ℕ → Entry → Type 0) (l lo hi : ℕ) (m : MemNode) : Type 0 where
  pub level : m.level ≡ l
  pub live : m.dead ≡ false
  pub items : Items (K τ) P lo hi m.entries

-- a child below m. Q: what is asked of its node, from its index key on
pub record Child (τ : Terms) (Q : ℕ → ℕ → MemNode → Type 0) (node : Val → MemNode) (m : ℕ) (e : Entry) : Type 0 where
  pub key : KeyOk τ e.key
  pub below : K τ e.key < m
  pub is_one : is_child e.value ≡ true
  pub ok : Q (K τ e.key) m (node e.value)

-- L: what is asked of a leaf's entry
abbrev pub Ok : Terms → (ℕ → MemNode) → (ℕ → MemNode) → ℕ → ℕ → ℕ → MemNode → Type 0
Ok τ rd at zero lo hi m = Level τ (Row τ) zero lo hi m
Ok τ rd at (suc l) lo hi m = Level τ (Child τ (Ok τ rd at l) (node_of rd at)) (suc l) lo hi m

pub kids_le : {τ : Terms} {Q : ℕ → ℕ → MemNode → Type 0} {node : Val → MemNode} {lo hi : ℕ} {es : List Entry} → Items (K τ) (Child τ Q node) lo hi es
    → lo ≤ hi
kids_le r = bounds (λ m e p. let h = p.below in omega arith) r

module _ (τ : Terms) (rd : ℕ → MemNode) where
  -- children of level l
  abbrev Kids : (ℕ → MemNode) → ℕ → ℕ → ℕ → List Entry → Type 0
  Kids at l lo hi es = Items (K τ) (Child τ (Ok τ rd at l) (node_of rd at)) lo hi es

  pub ok_wide : (at : ℕ → MemNode) (l lo lo' hi hi' : ℕ) (m : MemNode) → lo' ≤ lo → hi ≤ hi' → Ok τ rd at l lo hi m → Ok τ rd at l lo' hi' m
  ok_wide at zero lo lo' hi hi' m a b h = record { level = h.level; live = h.live; items = low a (high b h.items) }
  ok_wide at (suc l) lo lo' hi hi' m a b h = record { level = h.level; live = h.live; items = low a (high b h.items) }

  pub ok_level : (at : ℕ → MemNode) (l lo hi : ℕ) (m : MemNode) → Ok τ rd at l lo hi m → m.level ≡ l
  ok_level at zero lo hi m h = h.level
  ok_level at (suc l) lo hi m h = h.level

  pub ok_live : (at : ℕ → MemNode) (l lo hi : ℕ) (m : MemNode) → Ok τ rd at l lo hi m → m.dead ≡ false
  ok_live at zero lo hi m h = h.live
  ok_live at (suc l) lo hi m h = h.live

  -- from its first key on
  pub ok_tight : (at : ℕ → MemNode) (l lo hi : ℕ) (m : MemNode) → Ok τ rd at l lo hi m → Ok τ rd at l (first_or (K τ) hi m.entries) hi m
  ok_tight at zero lo hi m h = record { level = h.level; live = h.live; items = tight h.items }
  ok_tight at (suc l) lo hi m h = record { level = h.level; live = h.live; items = tight h.items }

  -- what it holds are rows within the bounds
  module _ (at : ℕ → MemNode) where
    kids_rows : (l : ℕ) → ((lo hi : ℕ) (m : MemNode) → Ok τ rd at l lo hi m → Items (K τ) (Row τ) lo hi (cont rd at l m))
        → {lo hi : ℕ} {es : List Entry} → Items (K τ) (Child τ (Ok τ rd at l) (node_of rd at)) lo hi es → Items (K τ) (Row τ) lo hi (conts rd at l es)
    kids_rows l f (nil e) = nil e
    kids_rows l f (cons {m = m} {e = x} e p r) = append (low e (f (K τ x.key) m (node_of rd at x.value) p.ok)) (kids_rows l f r)

    pub ok_rows : (l lo hi : ℕ) (m : MemNode) → Ok τ rd at l lo hi m → Items (K τ) (Row τ) lo hi (cont rd at l m)
    unfolding cont
    ok_rows zero lo hi m h = h.items
    ok_rows (suc l) lo hi m h = kids_rows l (ok_rows l) h.items

    pub conts_rows : (l : ℕ) {lo hi : ℕ} {es : List Entry} → Items (K τ) (Child τ (Ok τ rd at l) (node_of rd at)) lo hi es
        → Items (K τ) (Row τ) lo hi (conts rd at l es)
    conts_rows l r = kids_rows l (ok_rows l) r

  -- the first entry's key, and where it stands
  pub ok_first : (at : ℕ → MemNode) (l lo hi : ℕ) (m : MemNode) (f : Entry) (fs : List Entry) → m.entries ≡ f ∷ fs → Ok τ rd at l lo hi m
      → KeyOk τ f.key × (K τ f.key < hi) × (lo ≤ K τ f.key)
  ok_first at zero lo hi m f fs e h = go (rw e at h.items)
    where
      go : Items (K τ) (Row τ) lo hi (f ∷ fs) → KeyOk τ f.key × (K τ f.key < hi) × (lo ≤ K τ f.key)
      go (cons z p t) = let w = rows_le τ t in let v = p.below in (p.key, omega arith, z)
  ok_first at (suc l) lo hi m f fs e h = go (rw e at h.items)
    where
      go : Items (K τ) (Child τ (Ok τ rd at l) (node_of rd at)) lo hi (f ∷ fs) → KeyOk τ f.key × (K τ f.key < hi) × (lo ≤ K τ f.key)
      go (cons z p t) = let w = kids_le t in let v = p.below in (p.key, omega arith, z)

  -- ---- the frame: slots that agree on what stands below a node leave its tree as it was

  pub record Same (at at' : ℕ → MemNode) (l : ℕ) (m : MemNode) : Type 0 where
    pub holds : cont rd at' l m ≡ cont rd at l m
    pub uses : (c : ℕ) → slots rd at' l c m ≡ slots rd at l c m
    pub sums : (f : MemNode → ℕ) → total rd at' f l m ≡ total rd at f l m
    pub ok : (lo hi : ℕ) → Ok τ rd at l lo hi m → Ok τ rd at' l lo hi m

  pub record Sames (at at' : ℕ → MemNode) (l : ℕ) (es : List Entry) : Type 0 where
    pub holds : conts rd at' l es ≡ conts rd at l es
    pub uses : (c : ℕ) → slots_in rd at' l c es ≡ slots_in rd at l c es
    pub sums : (f : MemNode → ℕ) → totals rd at' f l es ≡ totals rd at f l es
    pub ok : (lo hi : ℕ) → Kids at l lo hi es → Kids at' l lo hi es

  module _ (at at' : ℕ → MemNode) where
    node_same : (v : Val) → ((c : ℕ) → 1 ≤ names c v → at' c ≡ at c) → node_of rd at' v ≡ node_of rd at v
    unfolding node_of
    node_same ghost h = refl
    node_same (leaf v) h = refl
    node_same (disk r) h = refl
    node_same (mem c) h = h c (omega (arith, names_same c))

    ok_cons : (l lo hi : ℕ) (e : Entry) (es : List Entry) → node_of rd at' e.value ≡ node_of rd at e.value
        → Same at at' l (node_of rd at e.value)
        → ((lo hi : ℕ) → Kids at l lo hi es → Kids at' l lo hi es) → Kids at l lo hi (e ∷ es) → Kids at' l lo hi (e ∷ es)
    ok_cons l lo hi e es q s f (cons {m = m} z p r) =
        cons z (record { key = p.key; below = p.below; is_one = p.is_one; ok = rw q (s.ok (K τ e.key) m p.ok) }) (f m hi r)

    frames : (l : ℕ) → ((m : MemNode) → ((c : ℕ) → 1 ≤ slots rd at l c m → at' c ≡ at c) → Same at at' l m)
        → (es : List Entry) → ((c : ℕ) → 1 ≤ slots_in rd at l c es → at' c ≡ at c) → Sames at at' l es
    frames l ih [] h = record { holds = refl; uses = λ c. refl; sums = λ f. refl; ok = λ lo hi r. none r }
      where
        none : {lo hi : ℕ} → Kids at l lo hi [] → Kids at' l lo hi []
        none (nil e) = nil e
    frames l ih (e ∷ es) h =
        let q : node_of rd at' e.value ≡ node_of rd at e.value = node_same e.value (λ c p. h c (omega arith)) in
        let here = ih (node_of rd at e.value) (λ c p. h c (omega arith)) in
        let rest = frames l ih es (λ c p. h c (omega arith)) in
        record {
          holds = rw q (ap₂ ◌++◌ here.holds rest.holds);
          uses = λ c. rw q (ap₂ (λ (a b : ℕ). names c e.value + a + b) (here.uses c) (rest.uses c));
          sums = λ f. rw q (ap₂ ◌+◌ (here.sums f) (rest.sums f));
          ok = λ lo hi r. ok_cons l lo hi e es q here rest.ok r;
        }

    pub frame : (l : ℕ) (m : MemNode) → ((c : ℕ) → 1 ≤ slots rd at l c m → at' c ≡ at c) → Same at at' l m
    unfolding cont slots total
    frame zero m h = record {
      holds = refl;
      uses = λ c. refl;
      sums = λ f. refl;
      ok = λ lo hi r. record { level = r.level; live = r.live; items = r.items };
    }
    frame (suc l) m h =
        let below = frames l (frame l) m.entries h in
        record {
          holds = below.holds;
          uses = below.uses;
          sums = λ f. ap (λ (a : ℕ). f m + a) (below.sums f);
          ok = λ lo hi r. record { level = r.level; live = r.live; items = below.ok lo hi r.items };
        }

    pub frame_all : (l : ℕ) (es : List Entry) → ((c : ℕ) → 1 ≤ slots_in rd at l c es → at' c ≡ at c) → Sames at at' l es
    frame_all l es h = frames l (frame l) es h
