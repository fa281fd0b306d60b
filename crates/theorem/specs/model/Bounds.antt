-- Entries whose keys rise within bounds, leaf and index alike; the plain list's edits leave alone what lies beyond a bound. Assumes nothing.
use Rattle.std.specs.Prelude.{◌≡◌, List, [], ◌∷◌, ◌++◌, Bool, true, false, ◌||◌, length, ltb, eqb}
use Rattle.std.proofs.Math.Path.{refl}
use Rattle.std.proofs.Common.{◌∙◌, le_trans, arith, ltb-true, ltb-false}
use Prim.Native.Nat.{ℕ, suc, ◌≤◌, ◌<◌}
use Rattle.std.proofs.Math.Nat.{le_refl}
use Rattle.node.specs.Order.{less}
use Rattle.node.specs.Entry.{Entry, Val, ghost, leaf, disk, mem, value_bytes}
use Rattle.node.specs.laws.base.Bytes.{Bytes}
use Rattle.node.specs.laws.base.Tests.{by_test}
use Rattle.node.specs.laws.order.Order.{Key, rank, less_rank, rank_injective}
use Rattle.history.specs.Plain.{plain_upsert, plain_remove}

-- ---- the family

-- entries whose keys' ranks rise from lo and stay below hi. P m e: what the entry itself is, up to the next bound m
pub data Items (K : List ℕ → ℕ) (P : ℕ → Entry → Type 0) : ℕ → ℕ → List Entry → Type 0 where
  nil : {lo hi : ℕ} → lo ≤ hi → Items K P lo hi []
  cons : {lo m hi : ℕ} {e : Entry} {es : List Entry} → lo ≤ K e.key → P m e → Items K P m hi es → Items K P lo hi (e ∷ es)

-- the rank of the first key, or hi
abbrev pub first_or : (List ℕ → ℕ) → ℕ → List Entry → ℕ
first_or K hi [] = hi
first_or K hi (e ∷ es) = K e.key

module _ {K : List ℕ → ℕ} {P : ℕ → Entry → Type 0} where
  pub low : {lo lo' hi : ℕ} {es : List Entry} → lo' ≤ lo → Items K P lo hi es → Items K P lo' hi es
  low h (nil e) = nil (le_trans h e)
  low h (cons e p r) = cons (le_trans h e) p r

  pub high : {lo hi hi' : ℕ} {es : List Entry} → hi ≤ hi' → Items K P lo hi es → Items K P lo hi' es
  high h (nil e) = nil (le_trans e h)
  high h (cons e p r) = cons e p (high h r)

  pub append : {lo m hi : ℕ} {xs ys : List Entry} → Items K P lo m xs → Items K P m hi ys → Items K P lo hi (xs ++ ys)
  append (nil e) r = low e r
  append (cons e p q) r = cons e p (append q r)

  pub unappend : {lo hi : ℕ} (xs : List Entry) {ys : List Entry} → Items K P lo hi (xs ++ ys) → (m : ℕ) × Items K P lo m xs × Items K P m hi ys
  unappend {lo} [] r = (lo, nil (le_refl lo), r)
  unappend (x ∷ xs) (cons e p r) = let (m, a, b) = unappend xs r in (m, cons e p a, b)

  -- bounds are in order where each entry's are
  pub bounds : {lo hi : ℕ} {es : List Entry} → ((m : ℕ) (e : Entry) → P m e → K e.key ≤ m) → Items K P lo hi es → lo ≤ hi
  bounds f (nil e) = e
  bounds f (cons {m = m} {e = x} e p r) = let h = f m x p in let g = bounds f r in omega arith

  -- the lower bound can be the first key itself
  pub tight : {lo hi : ℕ} {es : List Entry} → Items K P lo hi es → Items K P (first_or K hi es) hi es
  tight (nil e) = nil (le_refl _)
  tight (cons e p r) = cons (le_refl _) p r

  pub first_le : {lo hi : ℕ} {es : List Entry} → Items K P lo hi es → lo ≤ first_or K hi es
  first_le (nil e) = e
  first_le (cons e p r) = e

  -- another account of each entry
  pub items_imp : {Q : ℕ → Entry → Type 0} {lo hi : ℕ} {es : List Entry} → ((m : ℕ) (e : Entry) → P m e → Q m e) → Items K P lo hi es
      → Items K Q lo hi es
  items_imp f (nil e) = nil e
  items_imp f (cons {m = m} {e = x} e p r) = cons e (f m x p) (items_imp f r)

-- ---- keys, and a leaf's entries

-- what all keys and values of a tree are held to: its order, a length that no key in play passes, its fixed lengths (0: none)
pub record Terms : Type 0 where
  pub order : ℕ
  pub most : ℕ
  pub ksize : ℕ
  pub vsize : ℕ

-- the rank of a key. (It is never computed)
abbrev pub K : Terms → List ℕ → ℕ
K τ k = rank τ.order τ.most k

-- a key of the order, not too long: what a lookup is given
pub record KeyIn (τ : Terms) (k : List ℕ) : Type 0 where
  pub key : Key τ.order k
  pub short : length k ≤ τ.most

-- and of the fixed length: what an entry has
pub record KeyOk (τ : Terms) (k : List ℕ) : Type 0 where
  pub key : Key τ.order k
  pub short : length k ≤ τ.most
  pub fixed : (eqb τ.ksize 0 || eqb (length k) τ.ksize) ≡ true

pub key_in : {τ : Terms} {k : List ℕ} → KeyOk τ k → KeyIn τ k
key_in h = record { key = h.key; short = h.short }

-- a leaf's value: no child, of the fixed length
unfoldable pub value_sized : Terms → Val → Bool
value_sized τ ghost = true
value_sized τ (leaf v) = eqb τ.ksize 0 || eqb (length v) τ.vsize
value_sized τ (disk r) = false
value_sized τ (mem c) = false

pub record ValueOk (τ : Terms) (v : Val) : Type 0 where
  pub sized : value_sized τ v ≡ true
  pub bytes : Bytes (value_bytes v)

-- a leaf's entry below m
pub record Row (τ : Terms) (m : ℕ) (e : Entry) : Type 0 where
  pub below : K τ e.key < m
  pub key : KeyOk τ e.key
  pub value : ValueOk τ e.value

module _ (τ : Terms) where
  -- cases on two keys, with the tests' values
  pub by_keys {ℓ} : {C : Type ℓ} (a b : List ℕ) → KeyOk τ a → KeyIn τ b
      → (K τ a < K τ b → less τ.order a b ≡ true → C)
      → (K τ a ≡ K τ b → a ≡ b → less τ.order a b ≡ false → less τ.order b a ≡ false → C)
      → (K τ b < K τ a → less τ.order a b ≡ false → less τ.order b a ≡ true → C)
      → C
  by_keys a b h k f g i =
      let x : less τ.order a b ≡ ltb (K τ a) (K τ b) = less_rank τ.order τ.most a b h.key k.key h.short k.short in
      let y : less τ.order b a ≡ ltb (K τ b) (K τ a) = less_rank τ.order τ.most b a k.key h.key k.short h.short in
      by_test (ltb (K τ a) (K τ b))
      (λ t. f (ltb-true (K τ a) (K τ b) t) (x ∙ t))
      (λ t. by_test (ltb (K τ b) (K τ a))
      (λ u. i (ltb-true (K τ b) (K τ a) u) (x ∙ t) (y ∙ u))
      (λ u.
      let p = ltb-false (K τ a) (K τ b) t in
      let q = ltb-false (K τ b) (K τ a) u in
      let e : K τ a ≡ K τ b = omega arith in
      g e (rank_injective τ.order τ.most a b h.key k.key h.short k.short e) (x ∙ t) (y ∙ u)))

  pub rows_le : {lo hi : ℕ} {es : List Entry} → Items (K τ) (Row τ) lo hi es → lo ≤ hi
  rows_le r = bounds (λ m e p. let h = p.below in omega arith) r

  -- ---- upsert

  pub upsert_right : (k : List ℕ) (v : Val) → KeyIn τ k → {lo m : ℕ} {xs : List Entry} (ys : List Entry) → Items (K τ) (Row τ) lo m xs → m ≤ K τ k
      → plain_upsert τ.order k v (xs ++ ys) ≡ xs ++ plain_upsert τ.order k v ys
  unfolding plain_upsert
  upsert_right k v g ys (nil e) h = refl
  upsert_right k v g ys (cons {e = x} e p r) h =
      let b = rows_le r in
      let w = p.below in
      by_keys x.key k p.key g
      (λ l t. rw (t, upsert_right k v g ys r h))
      (λ q _ _ _. absurd (omega arith))
      (λ l _ _. absurd (omega arith))

  pub upsert_left : (k : List ℕ) (v : Val) → KeyIn τ k → {lo hi lo' hi' : ℕ} {xs ys : List Entry} → Items (K τ) (Row τ) lo' hi' xs
      → Items (K τ) (Row τ) lo hi ys → K τ k < lo
      → plain_upsert τ.order k v (xs ++ ys) ≡ plain_upsert τ.order k v xs ++ ys
  unfolding plain_upsert
  upsert_left k v g (nil z) (nil e) h = refl
  upsert_left k v g (nil z) (cons {e = x} e p r) h =
      by_keys x.key k p.key g
      (λ l t. absurd (omega arith))
      (λ q _ _ _. absurd (omega arith))
      (λ l t u. rw (t, u))
  upsert_left k v g (cons {e = x} e p q) r h =
      by_keys x.key k p.key g
      (λ l t. rw (t, upsert_left k v g q r h))
      (λ _ _ t u. rw (t, u))
      (λ l t u. rw (t, u))

  -- one leaf: the bounds are kept. (lo' apart from lo, so that the recursion is on the tail's own proof)
  pub upsert_rows_lem : (k : List ℕ) (v : Val) → KeyOk τ k → ValueOk τ v → {lo lo' hi : ℕ} {es : List Entry} → Items (K τ) (Row τ) lo hi es
      → lo' ≤ lo → lo' ≤ K τ k → K τ k < hi → Items (K τ) (Row τ) lo' hi (plain_upsert τ.order k v es)
  unfolding plain_upsert
  upsert_rows_lem k v g own (nil e) z a b = cons a (record { below = b; key = g; value = own }) (nil (le_refl _))
  upsert_rows_lem k v g own (cons {m = m} {e = x} e p r) z a b =
      let d = rows_le r in
      let w = p.below in
      by_keys x.key k p.key (key_in g)
      (λ l t. rw t (cons {m = suc (K τ x.key)} (le_trans z e) (record { below = le_refl _; key = p.key; value = p.value })
      (upsert_rows_lem k v g own r w l b)))
      (λ q y t u. rw (t, u) (cons {m = m} (le_trans z e) (record { below = w; key = p.key; value = own }) r))
      (λ l t u. rw (t, u) (cons a (record { below = l; key = g; value = own }) (cons (le_refl _) p r)))

  -- ---- remove

  pub remove_right : (k : List ℕ) → KeyIn τ k → {lo m : ℕ} {xs : List Entry} (ys : List Entry) → Items (K τ) (Row τ) lo m xs → m ≤ K τ k
      → plain_remove τ.order k (xs ++ ys) ≡ xs ++ plain_remove τ.order k ys
  unfolding plain_remove
  remove_right k g ys (nil e) h = refl
  remove_right k g ys (cons {e = x} e p r) h =
      let b = rows_le r in
      let w = p.below in
      by_keys x.key k p.key g
      (λ l t. rw (t, remove_right k g ys r h))
      (λ q _ _ _. absurd (omega arith))
      (λ l _ _. absurd (omega arith))

  pub remove_left : (k : List ℕ) → KeyIn τ k → {lo hi lo' hi' : ℕ} {xs ys : List Entry} → Items (K τ) (Row τ) lo' hi' xs
      → Items (K τ) (Row τ) lo hi ys → K τ k < lo
      → plain_remove τ.order k (xs ++ ys) ≡ plain_remove τ.order k xs ++ ys
  unfolding plain_remove
  remove_left k g (nil z) (nil e) h = refl
  remove_left k g (nil z) (cons {e = x} e p r) h =
      by_keys x.key k p.key g
      (λ l t. absurd (omega arith))
      (λ q _ _ _. absurd (omega arith))
      (λ l t u. rw (t, u))
  remove_left k g (cons {e = x} e p q) r h =
      by_keys x.key k p.key g
      (λ l t. rw (t, remove_left k g q r h))
      (λ _ _ t u. rw (t, u))
      (λ l t u. rw (t, u))
