-- One level up: what stands in a child's place is put between its siblings, which are as they were. Every pass of an edit over its way is this step.
-- Assumes nothing.
use Rattle.std.specs.Prelude.{◌≡◌, false, length}
use Rattle.std.proofs.Common.{sym, ◌∙◌, le_refl, le_trans}
use Rattle.std.proofs.Math.Path.{ap, ap₂}
use mathlib.Core.List.{List, [], ◌∷◌, ◌++◌}
use Prim.Native.Nat.{ℕ, suc, ◌+◌, ◌≤◌, ◌<◌}
use native.Mathlib.Omega.{arith}
use Rattle.node.specs.Entry.{Entry}
use Rattle.node.specs.Slot.{MemNode}
use Rattle.theorem.specs.model.Bounds.{Terms, K, Items, nil, cons, append, unappend, tight, first_or, Row}
use Rattle.theorem.specs.model.Lazy.{sum_map, concat_map, sum_append, concat_append, node_of, cont, total, names, slots, conts, totals, slots_in, Child, Ok, Sames}

-- an edit of the plain list at key k leaves alone what lies beyond a bound
pub record Local (τ : Terms) (k : List ℕ) (op : List Entry → List Entry) : Type 0 where
  pub right : (lo m : ℕ) (xs ys : List Entry) → Items (K τ) (Row τ) lo m xs → m ≤ K τ k → op (xs ++ ys) ≡ xs ++ op ys
  pub left : (lo m lo' hi : ℕ) (xs ys : List Entry) → Items (K τ) (Row τ) lo m xs → Items (K τ) (Row τ) lo' hi ys → K τ k < lo'
      → op (xs ++ ys) ≡ op xs ++ ys

-- a child on the way to k, between its siblings: its key is not above k, unless it is the first; the next is above
pub record Toward (τ : Terms) (k : List ℕ) (xs : List Entry) (e : Entry) (ys : List Entry) : Type 0 where
  pub not_above : 0 < length xs → K τ e.key ≤ K τ k
  pub next : (hi : ℕ) → K τ k < hi → K τ k < first_or (K τ) hi ys

-- items taken apart at an entry on the way: the bound before it is not above k
pub record Parts (K : List ℕ → ℕ) (P : ℕ → Entry → Type 0) (lo hi k : ℕ) (xs : List Entry) (e : Entry) (ys : List Entry) : Type 0 where
  pub from : ℕ
  pub up_to : ℕ
  pub left : Items K P lo from xs
  pub before : from ≤ K e.key
  pub own : P up_to e
  pub right : Items K P up_to hi ys
  pub not : from ≤ k

parts_of : {K : List ℕ → ℕ} {P : ℕ → Entry → Type 0} {lo hi m : ℕ} (k : ℕ) {xs : List Entry} {e : Entry} {ys : List Entry} → Items K P lo m xs
    → m ≤ k → Items K P m hi (e ∷ ys) → Parts K P lo hi k xs e ys
parts_of {m = m} k a h (cons {m = b} z p r) = record { from = m; up_to = b; left = a; before = z; own = p; right = r; not = h }

at_most : {K : List ℕ → ℕ} {P : ℕ → Entry → Type 0} {lo hi : ℕ} {e : Entry} {ys : List Entry} → Items K P lo hi (e ∷ ys) → lo ≤ K e.key
at_most (cons z p r) = z

pub parts : {K : List ℕ → ℕ} {P : ℕ → Entry → Type 0} {lo hi : ℕ} (k : ℕ) (xs : List Entry) {e : Entry} {ys : List Entry} → lo ≤ k
    → (0 < length xs → K e.key ≤ k)
    → Items K P lo hi (xs ++ e ∷ ys) → Parts K P lo hi k xs e ys
parts {lo = lo} k [] h f r = parts_of k (nil (le_refl lo)) h r
parts k (x ∷ xs) h f r =
    let (m, a, b) = unappend (x ∷ xs) r in
    parts_of k a (le_trans (at_most b) (f (omega arith))) b

-- ---- a node taken apart at an entry

module _ (rd at : ℕ → MemNode) (l : ℕ) (m : MemNode) (xs : List Entry) (e : Entry) (ys : List Entry) (row : m.entries ≡ xs ++ e ∷ ys) where
  pub apart_holds : cont rd at (suc l) m ≡ conts rd at l xs ++ (cont rd at l (node_of rd at e.value) ++ conts rd at l ys)
  unfolding cont
  apart_holds = ap (conts rd at l) row ∙ concat_append _ xs (e ∷ ys)

  pub apart_sums : (f : MemNode → ℕ) → total rd at f (suc l) m ≡ f m +
      (totals rd at f l xs + (total rd at f l (node_of rd at e.value) + totals rd at f l ys))
  unfolding total
  apart_sums f = ap (λ (z : List Entry). f m + totals rd at f l z) row ∙ ap (λ (z : ℕ). f m + z) (sum_append _ xs (e ∷ ys))

  pub apart_uses : (d : ℕ) → slots rd at (suc l) d m ≡ slots_in rd at l d xs +
      (names d e.value + slots rd at l d (node_of rd at e.value) + slots_in rd at l d ys)
  unfolding slots
  apart_uses d = ap (slots_in rd at l d) row ∙ sum_append _ xs (e ∷ ys)

-- ---- and put together with something else in that entry's place

module _ (τ : Terms) (rd : ℕ → MemNode) where
  module _ (at at' : ℕ → MemNode) (l : ℕ) (xs items ys : List Entry) (m' : MemNode) (row : m'.entries ≡ xs ++ (items ++ ys))
      (fx : Sames τ rd at at' l xs) (fy : Sames τ rd at at' l ys) where
    pub lift_ok : (lo from up_to hi : ℕ) → m'.level ≡ suc l → m'.dead ≡ false
        → Items (K τ) (Child τ (Ok τ rd at l) (node_of rd at)) lo from xs
        → Items (K τ) (Child τ (Ok τ rd at' l) (node_of rd at')) from (first_or (K τ) hi ys) items
        → Items (K τ) (Child τ (Ok τ rd at l) (node_of rd at)) up_to hi ys
        → Ok τ rd at' (suc l) lo hi m'
    lift_ok lo from up_to hi lv dd a b c =
        record { level = lv; live = dd; items = rw row (append (fx.ok lo from a) (append b (fy.ok (first_or (K τ) hi ys) hi (tight c)))) }

    pub lift_holds : cont rd at' (suc l) m' ≡ conts rd at l xs ++ (conts rd at' l items ++ conts rd at l ys)
    unfolding cont
    lift_holds =
        let f : Entry → List Entry = λ e. cont rd at' l (node_of rd at' e.value) in
        ap (concat_map f) row ∙ concat_append f xs (items ++ ys)
        ∙ ap₂ ◌++◌ fx.holds (concat_append f items ys ∙ ap (λ (z : List Entry). concat_map f items ++ z) fy.holds)

    pub lift_uses : (c : ℕ) → slots rd at' (suc l) c m' ≡ slots_in rd at l c xs + (slots_in rd at' l c items + slots_in rd at l c ys)
    unfolding slots
    lift_uses c =
        let f : Entry → ℕ = λ e. names c e.value + slots rd at' l c (node_of rd at' e.value) in
        let a : sum_map f (xs ++ (items ++ ys)) ≡ sum_map f xs + sum_map f (items ++ ys) = sum_append f xs (items ++ ys) in
        let b : sum_map f (items ++ ys) ≡ sum_map f items + sum_map f ys = sum_append f items ys in
        let p : sum_map f xs ≡ slots_in rd at l c xs = fx.uses c in
        let q : sum_map f ys ≡ slots_in rd at l c ys = fy.uses c in
        ap (sum_map f) row ∙ omega arith

    pub lift_sums : (f : MemNode → ℕ) → total rd at' f (suc l) m' ≡ f m' + (totals rd at f l xs + (totals rd at' f l items + totals rd at f l ys))
    unfolding total
    lift_sums f =
        let g : Entry → ℕ = λ e. total rd at' f l (node_of rd at' e.value) in
        let a : sum_map g (xs ++ (items ++ ys)) ≡ sum_map g xs + sum_map g (items ++ ys) = sum_append g xs (items ++ ys) in
        let b : sum_map g (items ++ ys) ≡ sum_map g items + sum_map g ys = sum_append g items ys in
        let p : sum_map g xs ≡ totals rd at f l xs = fx.sums f in
        let r : sum_map g ys ≡ totals rd at f l ys = fy.sums f in
        ap (λ (z : List Entry). f m' + sum_map g z) row ∙ omega arith

  -- the plain list's edit in the child is its edit in the node
  pub local_holds : (k : List ℕ) (op : List Entry → List Entry) → Local τ k op → (lo from to up_to hi : ℕ) (a b c : List Entry)
      → Items (K τ) (Row τ) lo from a → Items (K τ) (Row τ) from to b → Items (K τ) (Row τ) up_to hi c → from ≤ K τ k → K τ k < up_to
      → a ++ (op b ++ c) ≡ op (a ++ (b ++ c))
  local_holds k op loc lo from to up_to hi a b c ra rb rc h g =
      ap (λ (z : List Entry). a ++ z) (sym (loc.left from to up_to hi b c rb rc g)) ∙ sym (loc.right lo from a (b ++ c) ra h)
