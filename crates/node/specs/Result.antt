-- An answer that may be a refusal. The order of `check` lines is the order of the rules' lines (docs/RULES.md).
use Rattle.std.specs.Prelude.{ℕ, Bool, true, false}

pub data Result (A : Type 0) : Type 0 where
  refused : ℕ → Result A
  ok : A → Result A

infixr 20 ◌>>=◌
infixr 20 ◌>>◌
-- the first refusal, or what comes next of the answer
abbrev pub ◌>>=◌ : {A B : Type 0} → Result A → (A → Result B) → Result B
◌>>=◌ (refused n) f = refused n
◌>>=◌ (ok a) f = f a

abbrev pub ◌>>◌ : {A B : Type 0} → Result A → Result B → Result B
◌>>◌ (refused n) f = refused n
◌>>◌ (ok a) f = f

-- refuse with n unless the test passes
abbrev pub check : ℕ → Bool → Result (Unit {0})
check n true = ok tt
check n false = refused n
