-- Lines of standard input: what becomes of the bytes that were read, and, where the reader's bytes are known, of those to come.
use Rattle.std.specs.Prelude.{Option, Some, None, Result, Ok, Err, IsSome, IsNone, is_none, IfSome, IfOk, cond, not, ◌&&◌, ◌||◌, ◌^◌, ◌<◌, ◌≡◌, List, [], ◌∷◌, Bool, true, false, ℕ, ◌+◌, ◌-◌, ◌≤◌, length, take, drop, set, ltb, eqb}
use Rattle.std.specs.Io.KnownBytes.{prepend_known}
use Rattle.script.specs.declared.input.Lines.{Lines}
use Rattle.script.specs.declared.input.TooLong.{TooLong}

-- a line: the room for it, how many bytes of that are the line, whether it is longer
pub record Line : Type 0 where
  pub room : List ℕ
  pub len : ℕ
  pub long : Bool

abbrev pub empty_line : List ℕ → Line
empty_line l = record { room = l; len = 0; long = false }

-- the line of an answer: as many bytes as it says, or more than there is room for, or none
abbrev pub line_of : Option (Result ℕ TooLong) → List ℕ → Line
line_of None l = empty_line l
line_of (Some (Ok n)) l = record { room = l; len = n; long = false }
line_of (Some (Err e)) l = record { room = l; len = length l; long = true }

abbrev pub pick_line : Bool → Line → Line → Line
pick_line true a b = a
pick_line false a b = b

-- with one byte more; longer than its room where that is full
unfoldable pub took : Line → ℕ → Line
took l b =
    pick_line (ltb l.len (length l.room))
    (record { room = set l.room l.len b; len = l.len + 1; long = l.long })
    (record { room = l.room; len = l.len; long = true })

-- whether a line feed is among bytes
unfoldable pub has_feed : List ℕ → Bool
has_feed [] = false
has_feed (b ∷ bs) = eqb b 10 || has_feed bs

-- a line with the bytes before the first line feed; with all where there is none
unfoldable pub filled : Line → List ℕ → Line
filled l [] = l
filled l (b ∷ bs) = pick_line (eqb b 10) l (filled (took l b) bs)

-- the bytes behind the first line feed; none where there is none
unfoldable pub after_line : List ℕ → List ℕ
after_line [] = []
after_line (b ∷ bs) = cond (eqb b 10) bs (after_line bs)

-- what is left of the bytes read
abbrev pub left_of : {R : Type 0} → Lines R → List ℕ
left_of s = take (s.end - s.start) (drop s.start s.bytes)

-- a line that is not longer lies in its room
abbrev pub Fits : Option (Result ℕ TooLong) → ℕ → Type 0
Fits r room = IfSome r (λ l. IfOk l (λ n. n ≤ room))

-- a whole line that is left of the bytes read is the next, and no more is read
pub record Ahead {R : Type 0} (o : Lines R) (l : List ℕ) (r : Option (Result ℕ TooLong)) (p : Lines R) (m : List ℕ) : Type 0 where
  pub there : IsSome r
  pub line : line_of r m ≡ filled (empty_line l) (left_of o)
  pub left : left_of p ≡ after_line (left_of o)
  pub end : p.end ≡ o.end
  pub bytes : p.bytes ≡ o.bytes
  pub from : p.from ≡ o.from
  pub failed : p.failed ≡ o.failed

-- ---- a reader whose bytes are known

-- bytes read into a line: it has those before the first line feed, those behind it are to come, and there is no line where
-- there is no byte
pub record Reads (l : Line) (xs : List ℕ) (r : Option (Result ℕ TooLong)) (room : List ℕ) (to_come : Option (List ℕ)) : Type 0 where
  pub line : line_of r room ≡ filled l xs
  pub rest : to_come ≡ Some (after_line xs)
  pub ended : is_none r ≡ eqb (length xs) 0

-- the bytes to come, those left of the bytes read first
abbrev pub to_come : {R : Type 0} → (R → Option (List ℕ)) → Lines R → Option (List ℕ)
to_come remaining s = prepend_known (left_of s) (remaining s.from)

-- the same wherever a reader's bytes are known and no read failed
abbrev pub ReadsKnown : {R : Type 0} → (R → Option (List ℕ)) → Lines R → List ℕ → Option (Result ℕ TooLong) → Lines R → List ℕ → Type 0
ReadsKnown remaining o l r p room =
    (xs : List ℕ) → to_come remaining o ≡ Some xs → length xs < 2 ^ 64 - 1 → IsNone p.failed → Reads (empty_line l) xs r room (to_come remaining p)

-- whether the input ends with a line: no line feed is to come, and the line's room has no byte of it. Where the bytes are not known
-- or a read failed, this much is said: a whole line that is left of the bytes read does not end it, and one that does has no byte there
pub record Ends {R : Type 0} (remaining : R → Option (List ℕ)) (o : Lines R) (l : Line) (ended : Bool) (p : Lines R) : Type 0 where
  pub there : has_feed (left_of o) ≡ true → ended ≡ false
  pub none : ended ≡ true → l.len ≡ 0
  pub known : (xs : List ℕ) → to_come remaining o ≡ Some xs → length xs < 2 ^ 64 - 1 → IsNone p.failed → ended ≡ (not (has_feed xs) && eqb l.len 0)
