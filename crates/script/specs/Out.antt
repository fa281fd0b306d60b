-- Answers: the bytes that wait after a text was put, and what is written. Where as many wait as there is room for, they are
-- written and the next byte waits alone.
use Rattle.std.specs.Prelude.{◌≡◌, Option, IsSome, IsNone, List, [], ◌∷◌, ◌++◌, cond, ℕ, ◌+◌, ◌/◌, ◌%◌, length, take, ltb, decimal}
use Rattle.std.specs.Io.KnownBytes.{Appends}
use Rattle.script.specs.declared.out.TheConstants.{ROOM}
use Rattle.script.specs.declared.out.Out.{Out}
use Rattle.script.specs.declared.waiting.Waiting.{Waiting}

-- the bytes that wait, of an array of which so many do
unfoldable pub items : Waiting → List ℕ
items w = take w.len w.bytes

-- the bytes that wait, with one more: behind the others, or alone where there is no room for it
unfoldable pub put : List ℕ → ℕ → List ℕ
put h b = cond (ltb (length h) ROOM) (h ++ (b ∷ [])) (b ∷ [])

-- with a text more, byte by byte
unfoldable pub puts : List ℕ → List ℕ → List ℕ
puts h [] = h
puts h (b ∷ s) = puts (put h b) s

-- what is written as a byte is put: nothing where there is room for it, else all that waits
unfoldable pub sent : List ℕ → ℕ → List ℕ
sent h b = cond (ltb (length h) ROOM) [] h

-- what is written as a text is put
unfoldable pub sents : List ℕ → List ℕ → List ℕ
sents h [] = []
sents h (b ∷ s) = sent h b ++ sents (put h b) s

-- between two states of an answer's buffer: the first failure stays, and where none is there, the writer's bytes have grown by bs
pub record Wrote {E : Type 0} (f g : Option E) (old new : Option (List ℕ)) (bs : List ℕ) : Type 0 where
  pub kept : IsSome f → g ≡ f
  pub grown : IsNone g → Appends old new bs

-- a buffer o that gathers a text is p then: what waits, and what is written
pub record Gathers {W : Type 0} (contents : W → Option (List ℕ)) (o p : Out W) (s : List ℕ) : Type 0 where
  pub buffer : items p.waiting ≡ puts (items o.waiting) s
  pub written : Wrote o.failed p.failed (contents o.to) (contents p.to) (sents (items o.waiting) s)

-- a space and a decimal number
abbrev pub number_text : ℕ → List ℕ
number_text x = 32 ∷ decimal x

-- a lower-case hexadecimal digit
unfoldable pub hex_digit : ℕ → ℕ
hex_digit d = cond (ltb d 10) (48 + d) (87 + d)

-- two hexadecimal digits a byte
unfoldable pub hex_text : List ℕ → List ℕ
hex_text [] = []
hex_text (b ∷ s) = hex_digit (b / 16) ∷ hex_digit (b % 16) ∷ hex_text s

-- a space and a byte string: x and its digits
abbrev pub bytes_text : List ℕ → List ℕ
bytes_text s = 32 ∷ 120 ∷ hex_text s

-- a space and words
abbrev pub word_text : List ℕ → List ℕ
word_text s = 32 ∷ s

-- an answer's start: ( and its name
abbrev pub open_text : List ℕ → List ℕ
open_text name = 40 ∷ name

-- an answer's end: ) and a line feed
abbrev pub close_text : List ℕ
close_text = 41 ∷ 10 ∷ []

-- an answer of a name and a number
unfoldable pub one_text : List ℕ → ℕ → List ℕ
one_text name x = open_text name ++ number_text x ++ close_text

-- the start of an answer: a name and two numbers
unfoldable pub two_open_text : List ℕ → ℕ → ℕ → List ℕ
two_open_text name x y = open_text name ++ number_text x ++ number_text y

-- an answer of a name and two numbers
unfoldable pub two_text : List ℕ → ℕ → ℕ → List ℕ
two_text name x y = two_open_text name x y ++ close_text

-- the answer (error) and a line feed
abbrev pub error_text : List ℕ
error_text = 40 ∷ 101 ∷ 114 ∷ 114 ∷ 111 ∷ 114 ∷ 41 ∷ 10 ∷ []
