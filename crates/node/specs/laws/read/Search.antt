-- Laws of a key searched in a block, and the entry that is found. Assumes nothing.
use Rattle.std.specs.Prelude.{◌≡◌, refl, List, [], ◌∷◌, Bool, true, false, take, drop, Option, Some, None, MatchOption}
use Rattle.std.proofs.Math.Path.{sym, ap}
use Rattle.std.specs.Option.{unwrap_or}
use Rattle.std.proofs.Common.{◌∙◌, add-zero, zero-add}
use Prim.Native.Nat.{ℕ, zero, suc, ◌+◌, ◌-◌, ◌≤◌, ◌<◌}
use Rattle.std.proofs.Math.Nat.{sub-zero}
use native.Mathlib.Omega.{arith}
use Rattle.node.specs.Order.{less}
use Rattle.node.specs.Entry.{Entry}
use Rattle.node.specs.Find.{not_above, way_index, last_not_above, last_of}
use Rattle.node.specs.Read.{entry_at, entries_from}
use Rattle.node.specs.laws.read.Loaded.{entries_length}
use Rattle.node.specs.declared.read.Node.{Node}

module _ (v : Node) (b : List ℕ) (o : ℕ) (k : List ℕ) where
  -- whether entry i is above the key
  abbrev pub Above : ℕ → Bool → Type 0
  Above i t = t ≡ less o k (entry_at v b i).key

  not_one : (i m : ℕ) → ((j : ℕ) → i ≤ j → j < i + m → Above j false) → not_above o k (entries_from v b i m) ≡ m
  unfolding not_above entries_from
  not_one i zero none = refl
  not_one i (suc m) none =
      let first : less o k (entry_at v b i).key ≡ false = sym (none i (omega arith) (omega arith)) in
      rw first (ap suc (not_one (suc i) m (λ j g h. none j (omega arith) (omega arith))))

  one : (i m n : ℕ) → m < n → Above (i + m) true → ((j : ℕ) → i ≤ j → j < i + m → Above j false)
      → not_above o k (entries_from v b i n) ≡ m
  unfolding not_above entries_from
  one i m zero lt is none = absurd (omega arith)
  one i zero (suc n) lt is none =
      let here : less o k (entry_at v b i).key ≡ true = sym (rw add-zero at is) in
      rw here
  one i (suc m) (suc n) lt is none =
      let first : less o k (entry_at v b i).key ≡ false = sym (none i (omega arith) (omega arith)) in
      let e : i + suc m ≡ suc i + m = omega arith in
      rw first (ap suc (one (suc i) m n (omega arith) (rw e at is) (λ j g h. none j (omega arith) (omega arith))))

  -- the first entry that is above it, if there is one
  pub search_found : (r : Option ℕ)
      → MatchOption r ((j : ℕ) → 0 ≤ j → j < v.nkeys → Above j false)
      (λ i. (0 ≤ i) × (i < v.nkeys) × Above i true × ((j : ℕ) → 0 ≤ j → j < i → Above j false))
      → (unwrap_or r v.nkeys ≡ not_above o k (entries_from v b 0 v.nkeys)) × (unwrap_or r v.nkeys ≤ v.nkeys)
  search_found None none = (sym (not_one 0 v.nkeys (λ j g h. none j g (omega arith))), omega arith)
  search_found (Some i) m = (sym (one 0 i v.nkeys m.1 (rw zero-add m.2) (λ j g h. m.3 j g (omega arith))), omega (arith, m.1))

-- ---- the entry that is found

take_from : (v : Node) (b : List ℕ) (i r n : ℕ) → r ≤ n → take r (entries_from v b i n) ≡ entries_from v b i r
unfolding entries_from
take_from v b i zero n h = refl
take_from v b i (suc r) zero h = absurd (omega arith)
take_from v b i (suc r) (suc n) h = ap (λ (x : List Entry). entry_at v b i ∷ x) (take_from v b (suc i) r n (omega arith))

drop_from : (v : Node) (b : List ℕ) (i j n : ℕ) → j ≤ n → drop j (entries_from v b i n) ≡ entries_from v b (i + j) (n - j)
unfolding entries_from
drop_from v b i zero n h = rw (add-zero, sub-zero)
drop_from v b i (suc j) zero h = absurd (omega arith)
drop_from v b i (suc j) (suc n) h =
    let e : suc i + j ≡ i + suc j = omega arith in
    let m : n - j ≡ suc n - suc j = omega arith in
    rw (← e, ← m) (drop_from v b (suc i) j n (omega arith))

one_from : (v : Node) (b : List ℕ) (r : ℕ) → 1 ≤ r → drop (r - 1) (entries_from v b 0 r) ≡ entry_at v b (r - 1) ∷ []
unfolding entries_from
one_from v b r h =
    let e : 0 + (r - 1) ≡ r - 1 = omega arith in
    let m : r - (r - 1) ≡ 1 = omega arith in
    drop_from v b 0 (r - 1) r (omega arith) ∙ rw (e, m)

module _ (v : Node) (b : List ℕ) (o n : ℕ) (k : List ℕ) where
  pub found_none : not_above o k (entries_from v b 0 n) ≡ 0 → last_not_above o k (entries_from v b 0 n) ≡ []
  unfolding last_not_above
  found_none e = rw e

  -- the last entry not above k is the one before the first that is above it
  pub found_entry : (r : ℕ) → r ≡ not_above o k (entries_from v b 0 n) → 1 ≤ r → r ≤ n
      → last_not_above o k (entries_from v b 0 n) ≡ entry_at v b (r - 1)
      ∷ []
  unfolding last_not_above
  found_entry r e h f = rw (← e, take_from v b 0 r n f) (one_from v b r h)

  pub found_way : (r : ℕ) → r ≡ not_above o k (entries_from v b 0 n) → r - 1 ≡ way_index o k (entries_from v b 0 n)
  unfolding way_index
  found_way r e = ap (λ (x : ℕ). x - 1) e

pub last_entry : (v : Node) (b : List ℕ) (n : ℕ) → 1 ≤ n → last_of (entries_from v b 0 n) ≡ entry_at v b (n - 1) ∷ []
unfolding last_of
last_entry v b n h = rw (entries_length v b 0 n) (one_from v b n h)
