-- How far a line has come while its bytes are read.
use Rattle.std.specs.Prelude.{◌≡◌, Option, Some, IsNone, true, false, List, [], ℕ, ◌+◌, ◌-◌, ◌^◌, ◌≤◌, ◌<◌, length, min, ltb}
use Rattle.script.specs.declared.input.Lines.{Lines}
use Rattle.script.specs.Input.{Line, empty_line, filled, after_line, has_feed, left_of, to_come}

-- a line of so many bytes in its room
abbrev pub line_at : ℕ → List ℕ → Line
line_at len l = record { room = l; len = min len (length l); long = ltb (length l) len }

-- a reader that reads where none is left of the bytes read: unless the read failed, the bytes to come stay, and none are to
-- come where none are left then
pub record Refills {R : Type 0} (remaining : R → Option (List ℕ)) (o p : Lines R) : Type 0 where
  pub still : 0 < length (left_of o) → p ≡ o
  pub kept : IsNone p.failed → IsNone o.failed
  pub same : IsNone p.failed → (xs : List ℕ) → to_come remaining o ≡ Some xs → to_come remaining p ≡ Some xs
  pub done : IsNone p.failed → length (left_of p) ≡ 0 → (xs : List ℕ) → to_come remaining o ≡ Some xs → xs ≡ []

-- of bytes xs into a line l, after so many turns: those still to come make of the line so far what all make of l
pub record Rest (l xs m : List ℕ) (len turn : ℕ) (known : Option (List ℕ)) : Type 0 where
  pub ys : List ℕ
  pub there : known ≡ Some ys
  pub line : filled (line_at len m) ys ≡ filled (empty_line l) xs
  pub after : after_line ys ≡ after_line xs
  pub feed : has_feed ys ≡ has_feed xs
  pub all : min (len + length ys) (2 ^ 64 - 1) ≡ min (length xs) (2 ^ 64 - 1)
  pub turns : length ys + turn ≤ length xs

-- of a reader o and a line l, after so many turns: no turn is over where a whole line is left, and else that of the bytes to come
pub record Coming {R : Type 0} (remaining : R → Option (List ℕ)) (o s : Lines R) (l m : List ℕ) (len turn : ℕ) : Type 0 where
  pub room : length m ≡ length l
  pub first : has_feed (left_of o) ≡ true → (s ≡ o) × (m ≡ l) × (len ≡ 0) × (turn ≡ 0)
  pub coming : IsNone s.failed → (xs : List ℕ) → to_come remaining o ≡ Some xs → Rest l xs m len turn (to_come remaining s)

-- bytes xs that are all of a line so far that was l
pub record Last (l xs m : List ℕ) (len : ℕ) (known : Option (List ℕ)) : Type 0 where
  pub rest : known ≡ Some []
  pub line : line_at len m ≡ filled (empty_line l) xs
  pub after : after_line xs ≡ []
  pub feed : has_feed xs ≡ false
  pub all : min len (2 ^ 64 - 1) ≡ length xs

-- the end of the bytes, which no whole line was left of
pub record Ended {R : Type 0} (remaining : R → Option (List ℕ)) (o p : Lines R) (l m : List ℕ) (len : ℕ) : Type 0 where
  pub none : has_feed (left_of o) ≡ true → ⊥
  pub last : IsNone p.failed → (xs : List ℕ) → to_come remaining o ≡ Some xs → length xs < 2 ^ 64 - 1 → Last l xs m len (to_come remaining p)
