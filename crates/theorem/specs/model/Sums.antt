-- Sums over slots and over blocks, and how often a number stands in a list. Assumes nothing.
use Rattle.std.specs.Prelude.{◌≡◌, refl, List, [], ◌∷◌, ◌++◌, Bool, true, false, cond, ℕ, zero, suc, ◌+◌, ◌≤◌, ◌<◌, length, eqb, leb}
use Rattle.std.proofs.Common.{sym, ap, ap₂, zero-add, arith, eqb-true, eq-eqb, ne_eqb, le-leb}
use Rattle.std.proofs.lemmas.Bool.{eqb-false, lt-leb}
use Rattle.node.specs.laws.base.Tests.{by_test}
use Rattle.history.specs.Statement.{uses, count_below}

-- ---- sums over the numbers below n

unfoldable pub sum_below : (ℕ → ℕ) → ℕ → ℕ
sum_below f zero = 0
sum_below f (suc n) = f n + sum_below f n

pub sum_same : (f g : ℕ → ℕ) (n : ℕ) → ((c : ℕ) → c < n → f c ≡ g c) → sum_below f n ≡ sum_below g n
unfolding sum_below
sum_same f g zero h = refl
sum_same f g (suc n) h = let i = sum_same f g n (λ c k. h c (omega arith)) in omega (arith, h n (omega arith))

pub sum_none : (n : ℕ) → sum_below (λ c. 0) n ≡ 0
unfolding sum_below
sum_none zero = refl
sum_none (suc n) = let i = sum_none n in omega arith

pub sum_plus : (f g : ℕ → ℕ) (n : ℕ) → sum_below (λ c. f c + g c) n ≡ sum_below f n + sum_below g n
unfolding sum_below
sum_plus f g zero = refl
sum_plus f g (suc n) = let i = sum_plus f g n in omega arith

pub sum_le : (f g : ℕ → ℕ) (n : ℕ) → ((c : ℕ) → c < n → f c ≤ g c) → sum_below f n ≤ sum_below g n
unfolding sum_below
sum_le f g zero h = omega arith
sum_le f g (suc n) h = let i = sum_le f g n (λ c k. h c (omega arith)) in omega (arith, h n (omega arith))

-- nowhere more, and at k less by so much
pub sum_less : (f g : ℕ → ℕ) (n k : ℕ) → k < n → ((c : ℕ) → c < n → f c ≤ g c) → sum_below f n + g k ≤ sum_below g n + f k
unfolding sum_below
sum_less f g zero k lt h = absurd (omega arith)
sum_less f g (suc n) k lt h =
    by_test (eqb k n)
    (λ t. let e : k ≡ n = eqb-true k n t in rw e (omega (arith, sum_le f g n (λ c z. h c (omega arith)))))
    (λ t.
    let d : k ≡ n → ⊥ = eqb-false k n t in
    omega (arith, sum_less f g n k (omega arith) (λ c z. h c (omega arith)), h n (omega arith)))

-- the same but at k
pub sum_but : (f g : ℕ → ℕ) (n k : ℕ) → k < n → ((c : ℕ) → (c ≡ k → ⊥) → f c ≡ g c) → sum_below f n + g k ≡ sum_below g n + f k
unfolding sum_below
sum_but f g zero k lt h = absurd (omega arith)
sum_but f g (suc n) k lt h =
    by_test (eqb k n)
    (λ t. let e : k ≡ n = eqb-true k n t in rw e (omega (arith, sum_same f g n (λ c z. h c (λ q. omega arith)))))
    (λ t.
    let d : k ≡ n → ⊥ = eqb-false k n t in
    omega (arith, sum_but f g n k (omega arith) h, h n (λ q. d (sym q))))

pub sum_one : (f : ℕ → ℕ) (n k : ℕ) → k < n → f k ≤ sum_below f n
sum_one f n k lt = let h = sum_less (λ c. 0) f n k lt (λ c z. omega arith) in omega (arith, sum_none n)

-- of two, their sum is no more
pub sum_two : (f : ℕ → ℕ) (n j k : ℕ) → j < n → k < n → (j ≡ k → ⊥) → f j + f k ≤ sum_below f n
sum_two f n j k a b d =
    let g : ℕ → ℕ = λ c. cond (eqb c j) (f c) 0 in
    let le : (c : ℕ) → c < n → g c ≤ f c = λ c z. by_test (eqb c j) (λ t. rw t (omega arith)) (λ t. rw t (omega arith)) in
    let gk : g k ≡ 0 = rw (ne_eqb k j (λ q. d (sym q))) in
    let gj : g j ≡ f j = rw (eq-eqb j j refl) in
    omega (arith, sum_less g f n k b le, sum_one g n j a)

-- ---- counts are sums

pub count_sum : (t : ℕ → Bool) (n : ℕ) → count_below t n ≡ sum_below (λ a. cond (t a) 1 0) n
unfolding count_below sum_below
count_sum t zero = refl
count_sum t (suc n) = ap (λ (z : ℕ). cond (t n) 1 0 + z) (count_sum t n)

-- one number more passes
pub count_more : (t u : ℕ → Bool) (n k : ℕ) → k < n → t k ≡ false → u k ≡ true → ((a : ℕ) → (a ≡ k → ⊥) → t a ≡ u a)
    → count_below u n ≡ suc (count_below t n)
count_more t u n k lt p q h =
    let e = sum_but (λ a. cond (t a) 1 0) (λ a. cond (u a) 1 0) n k lt (λ a d. ap (λ (b : Bool). cond b 1 0) (h a d)) in
    let x : ◌≡◌ {A = ℕ} (cond (t k) 1 0) 0 = rw p in
    let y : ◌≡◌ {A = ℕ} (cond (u k) 1 0) 1 = rw q in
    omega (arith, count_sum t n, count_sum u n)

pub count_same : (t u : ℕ → Bool) (n : ℕ) → ((a : ℕ) → t a ≡ u a) → count_below t n ≡ count_below u n
unfolding count_below
count_same t u zero h = refl
count_same t u (suc n) h = ap₂ (λ (b : Bool) (z : ℕ). cond b 1 0 + z) (h n) (count_same t u n h)

-- ---- how often a number stands in a list

pub uses_append : (a : ℕ) (xs ys : List ℕ) → uses a (xs ++ ys) ≡ uses a xs + uses a ys
unfolding uses
uses_append a [] ys = omega arith
uses_append a (x ∷ xs) ys = let h = uses_append a xs ys in omega arith

pub uses_nil : (a : ℕ) → uses a [] ≡ 0
unfolding uses
uses_nil a = refl

pub uses_one : (a : ℕ) → uses a (a ∷ []) ≡ 1
unfolding uses
uses_one a = rw (eq-eqb a a refl)

pub uses_single : (a x : ℕ) → uses a (x ∷ []) ≡ cond (eqb a x) 1 0
unfolding uses
uses_single a x = omega arith

pub uses_other : (a x : ℕ) → (a ≡ x → ⊥) → uses a (x ∷ []) ≡ 0
unfolding uses
uses_other a x h = rw (ne_eqb a x h)

-- a list of one at most in which it stands
pub uses_only : (a : ℕ) (xs : List ℕ) → length xs ≤ 1 → 1 ≤ uses a xs → xs ≡ a ∷ []
unfolding uses
uses_only a [] h k = absurd (omega arith)
uses_only a (x ∷ []) h k =
    by_test (eqb a x)
    (λ t. let e : a ≡ x = eqb-true a x t in rw e)
    (λ t. let z : ◌≡◌ {A = ℕ} (cond (eqb a x) 1 0) 0 = rw t in absurd (omega arith))
uses_only a (x ∷ y ∷ ys) h k = absurd (omega arith)

pub count_none : (t : ℕ → Bool) (n : ℕ) → ((a : ℕ) → t a ≡ false) → count_below t n ≡ 0
unfolding count_below
count_none t zero h = refl
count_none t (suc n) h = rw (h n, count_none t n h)

-- a list of distinct numbers below n is as long as there are such numbers
pub count_distinct : (n : ℕ) (xs : List ℕ) → ((a : ℕ) → uses a xs ≤ 1) → ((a : ℕ) → 1 ≤ uses a xs → a < n)
    → length xs ≡ count_below (λ a. leb 1 (uses a xs)) n
unfolding uses
count_distinct n [] h k = sym (count_none (λ a. leb 1 0) n (λ a. refl))
count_distinct n (x ∷ xs) h k =
    let one : ◌≡◌ {A = ℕ} (cond (eqb x x) 1 0) 1 = rw (eq-eqb x x refl) in
    let i = count_distinct n xs (λ a. omega (arith, h a)) (λ a p. k a (omega arith)) in
    let none : uses x xs ≡ 0 = omega (arith, h x) in
    let m = count_more (λ a. leb 1 (uses a xs)) (λ a. leb 1 (cond (eqb a x) 1 0 + uses a xs)) n x (k x (omega arith))
    (lt-leb 1 (uses x xs) (omega arith)) (le-leb 1 (cond (eqb x x) 1 0 + uses x xs) (omega arith))
    (λ a d. rw (ne_eqb a x d) (ap (leb 1) (sym (zero-add (uses a xs))))) in
    omega (arith, i, m)
