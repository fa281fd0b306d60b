-- Laws of answers that may be a refusal: what an accepted answer says of its parts. Assumes nothing.
use Rattle.std.specs.Prelude.{◌≡◌, refl, Bool, true, false, ℕ}
use Rattle.std.proofs.Common.{subst, arith}
use Rattle.node.specs.Result.{Result, refused, ok, ◌>>=◌, ◌>>◌, check}

-- a refusal is no accepted answer
pub no_answer : {A C : Type 0} (n : ℕ) (a : A) → refused n ≡ ok a → C
no_answer n a e = let z : ◌≡◌ {A = ℕ} 0 1 = cc in absurd (omega arith)

-- ---- an accepted answer had accepted parts

pub bind_ok : {A B : Type 0} (r : Result A) (f : A → Result B) (b : B) → (r >>= f) ≡ ok b → (a : A) × (r ≡ ok a) × (f a ≡ ok b)
bind_ok (refused n) f b e = no_answer n b e
bind_ok (ok a) f b e = (a, refl, e)

pub then_ok : {A B : Type 0} (r : Result A) (f : Result B) (b : B) → (r >> f) ≡ ok b → ((a : A) × (r ≡ ok a)) × (f ≡ ok b)
then_ok (refused n) f b e = no_answer n b e
then_ok (ok a) f b e = ((a, refl), e)

pub check_ok : (n : ℕ) (t : Bool) (u : Unit {0}) → check n t ≡ ok u → t ≡ true
check_ok n true u e = refl
check_ok n false u e = no_answer n u e

-- a check and what follows
pub checked_ok : {B : Type 0} (n : ℕ) (t : Bool) (f : Result B) (b : B) → (check n t >> f) ≡ ok b → (t ≡ true) × (f ≡ ok b)
checked_ok n true f b e = (refl, e)
checked_ok n false f b e = no_answer n b e

-- ---- a check that passes and one that fails

pub check_passes : {B : Type 0} (n : ℕ) (t : Bool) (f : Result B) → t ≡ true → (check n t >> f) ≡ f
check_passes n t f e = rw e

pub check_refuses : {B : Type 0} (n : ℕ) (t : Bool) (f : Result B) → t ≡ false → (check n t >> f) ≡ refused n
check_refuses n t f e = rw e

-- ---- what holds of every accepted answer; a record, so that P can be implicit

pub record Holds {A : Type 0} (P : A → Type 0) (r : Result A) : Type 0 where
  pub at : (a : A) → r ≡ ok a → P a

-- the rules: one for each way that an answer is made
pub holds_ok : {A : Type 0} {P : A → Type 0} {a : A} → P a → Holds P (ok a)
holds_ok {P = P} {a = a} p = record { at = λ b e. let q : a ≡ b = cc in subst P q p }

pub holds_refused : {A : Type 0} {P : A → Type 0} {n : ℕ} → Holds P (refused n)
holds_refused {n = n} = record { at = λ b e. no_answer n b e }

-- r >>= f, the equation kept
pub holds_bind : {A B : Type 0} {Q : B → Type 0} (r : Result A) (f : A → Result B) → ((a : A) → r ≡ ok a → Holds Q (f a)) → Holds Q (r >>= f)
holds_bind (refused n) f k = holds_refused
holds_bind (ok a) f k = k a refl

-- r >> f
pub holds_then : {A B : Type 0} {Q : B → Type 0} (r : Result A) (f : Result B) → ((a : A) → r ≡ ok a → Holds Q f) → Holds Q (r >> f)
holds_then (refused n) f k = holds_refused
holds_then (ok a) f k = k a refl

-- check n t >> f
pub holds_check : {B : Type 0} {Q : B → Type 0} (n : ℕ) (t : Bool) (f : Result B) → (t ≡ true → Holds Q f) → Holds Q (check n t >> f)
holds_check n true f k = k refl
holds_check n false f k = holds_refused

pub holds_imp : {A : Type 0} {P Q : A → Type 0} (r : Result A) → ((a : A) → P a → Q a) → Holds P r → Holds Q r
holds_imp r f h = record { at = λ a e. f a (h.at a e) }
