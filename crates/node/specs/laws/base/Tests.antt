-- Laws of tests: by cases on one, two that pass together, both of two, one of two. Assumes nothing.
use Rattle.std.specs.Prelude.{◌≡◌, refl, Bool, true, false, ◌&&◌, ◌||◌, not, ℕ, ◌≤◌, ◌<◌, leb, ltb}
use Rattle.std.proofs.Common.{sym, arith, le-leb, leb-true, lt-ltb, ltb-true}
pub use Rattle.std.proofs.Math.Bool.{and-true, and-false, or-false}

-- by cases on a test, the equation kept
pub by_test {ℓ} : {C : Type ℓ} (t : Bool) → (t ≡ true → C) → (t ≡ false → C) → C
by_test true f g = f refl
by_test false f g = g refl

pub never {ℓ} : {C : Type ℓ} {t : Bool} → t ≡ true → t ≡ false → C
never p q = let z : ◌≡◌ {A = ℕ} 0 1 = cc in absurd (omega arith)

-- two tests that pass together are equal
pub test_ext : (s t : Bool) → (s ≡ true → t ≡ true) → (t ≡ true → s ≡ true) → s ≡ t
test_ext true t f g = sym (f refl)
test_ext false true f g = g refl
test_ext false false f g = refl

-- tests of numbers that pass together
pub leb_same : (a b c d : ℕ) → (a ≤ b → c ≤ d) → (c ≤ d → a ≤ b) → leb a b ≡ leb c d
leb_same a b c d f g = test_ext (leb a b) (leb c d) (λ p. le-leb c d (f (leb-true a b p))) (λ p. le-leb a b (g (leb-true c d p)))

pub ltb_same : (a b c d : ℕ) → (a < b → c < d) → (c < d → a < b) → ltb a b ≡ ltb c d
ltb_same a b c d f g = test_ext (ltb a b) (ltb c d) (λ p. lt-ltb c d (f (ltb-true a b p))) (λ p. lt-ltb a b (g (ltb-true c d p)))

pub and_split : (s t : Bool) → s && t ≡ true → (s ≡ true) × (t ≡ true)
and_split true t e = (refl, e)
and_split false t e = never refl (sym e)

pub and_left : (s t : Bool) → s && t ≡ true → s ≡ true
and_left s t e = (and_split s t e).0

pub and_right : (s t : Bool) → s && t ≡ true → t ≡ true
and_right s t e = (and_split s t e).1

pub and_both : (s t : Bool) → s ≡ true → t ≡ true → s && t ≡ true
and_both s t p q = rw (p, q)

-- what the second of two says where the first fails
pub or_right : (s t : Bool) → s ≡ false → s || t ≡ true → t ≡ true
or_right true t e h = never refl e
or_right false t e h = h

pub not_not : (t : Bool) → not (not t) ≡ t
not_not true = refl
not_not false = refl
