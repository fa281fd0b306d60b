-- One line of the script language: what stands between its brackets, the words there, the numbers and the byte strings.
-- A text is a list of bytes.
use Rattle.std.specs.Prelude.{Option, Some, None, List, [], ◌∷◌, Bool, true, cond, ◌&&◌, ℕ, zero, suc, ◌+◌, ◌-◌, ◌*◌, ◌/◌, ◌%◌, ◌^◌, min, length, take, drop, get_or, leb, ltb, eqb, slice_get, slice_index, EachIndex, unwrap_or, is_some, ◌≡◌, ◌<◌}
use Rattle.std.specs.Borrow.{Bor}
use Rattle.std.specs.List.{slice_split, list_all}
use Rattle.script.specs.Number.{most}
use Rattle.script.specs.declared.list.Words.{Words}
use Rattle.script.specs.declared.words.ByteString.{ByteString}

-- whether a line begins with ( and ends with )
unfoldable pub bracketed : List ℕ → Bool
bracketed l = leb 2 (length l) && eqb (get_or l 0 0) 40 && eqb (get_or l (length l - 1) 0) 41

-- what stands between the brackets; nothing where there are none
unfoldable pub inner_of : List ℕ → List ℕ
inner_of l = cond (bracketed l) (take (length l - 2) (drop 1 l)) []

-- the words of a text: what stands between its spaces
unfoldable pub words_of : List ℕ → List (List ℕ)
words_of s = slice_split (λ b. eqb b 32) s

-- how many words a text has: one more than spaces
abbrev pub word_count : List ℕ → ℕ
word_count s = length (words_of s)

-- word k; an empty one where there are fewer words
unfoldable pub word_of : List ℕ → ℕ → List ℕ
word_of s k = unwrap_or (slice_get (words_of s) k) []

-- the words of an array of which so many are a line's
unfoldable pub listed : Words → List (Bor (List ℕ))
listed w = take w.count w.list

-- the value of a decimal digit; 10 where a byte is none
unfoldable pub digit_of : ℕ → ℕ
digit_of b = cond (leb 48 b && leb b 57) (b - 48) 10

-- whether every byte is a decimal digit
unfoldable pub all_digits : List ℕ → Bool
all_digits [] = true
all_digits (b ∷ w) = leb (digit_of b) 9 && all_digits w

-- the number that a text spells in decimal, behind the digits of n
unfoldable pub spelled : ℕ → List ℕ → ℕ
spelled n [] = n
spelled n (b ∷ w) = spelled (n * 10 + digit_of b) w

-- whether a text is all digits that, behind those of n, spell a number below 2^64
unfoldable pub numeral : ℕ → List ℕ → Bool
numeral n w = all_digits w && leb (spelled n w) most

-- whether a word is a decimal number below 2^64
unfoldable pub is_number : List ℕ → Bool
is_number w = leb 1 (length w) && numeral 0 w

-- the number of a word that is one
abbrev pub number_read : List ℕ → Option ℕ
number_read w = cond (is_number w) (Some (spelled 0 w)) None

-- the number below 2^32 of a word that is one
abbrev pub u32_read : List ℕ → Option ℕ
u32_read w = cond (is_number w && ltb (spelled 0 w) (2 ^ 32)) (Some (spelled 0 w)) None

-- the number of a word; the greatest where it is above that
unfoldable pub number_of : List ℕ → ℕ
number_of w = min (spelled 0 w) most

-- whether a word is a number below 2^32
unfoldable pub is_u32 : List ℕ → Bool
is_u32 w = is_number w && ltb (number_of w) (2 ^ 32)

-- whether the n words from word k on are numbers
unfoldable pub are_numbers : List ℕ → ℕ → ℕ → Bool
are_numbers s k zero = true
are_numbers s k (suc n) = is_number (word_of s k) && are_numbers s (k + 1) n

-- whether each of the words from word k on, as many as there are numbers, is its number
abbrev pub AreNumbers : List ℕ → ℕ → List ℕ → Type 0
AreNumbers s k xs = EachIndex xs (λ i. number_read (word_of s (k + i)) ≡ Some (slice_index xs i))

-- whether one of the n words from word k on is no number
abbrev pub LacksNumber : List ℕ → ℕ → ℕ → Type 0
LacksNumber s k n = (i : ℕ) × (i < n) × (number_read (word_of s (k + i)) ≡ None)

-- the value of a lower-case hexadecimal digit
abbrev pub nibble_of : ℕ → Option ℕ
nibble_of b = cond (leb 48 b && leb b 57) (Some (b - 48)) (cond (leb 97 b && leb b 102) (Some (b - 87)) None)

-- whether a word is a byte string: x and two lower-case hexadecimal digits a byte
unfoldable pub is_bytes : List ℕ → Bool
is_bytes w = eqb (length w % 2) 1 && eqb (get_or w 0 0) 120 && list_all (λ b. is_some (nibble_of b)) (drop 1 w)

-- how many bytes a byte string has: two digits a byte, behind the x
abbrev pub byte_count : List ℕ → ℕ
byte_count w = (length w - 1) / 2

-- the byte of two hexadecimal digits, the upper first
abbrev pub byte_of : ℕ → ℕ → ℕ
byte_of a b = unwrap_or (nibble_of a) 0 * 16 + unwrap_or (nibble_of b) 0

-- the bytes of digits, two a byte; one left over at the end is left out
unfoldable pub pairs : List ℕ → List ℕ
pairs [] = []
pairs (a ∷ []) = []
pairs (a ∷ b ∷ w) = byte_of a b ∷ pairs w

-- the bytes of a byte string: those of the digits behind the x
unfoldable pub decoded : List ℕ → List ℕ
decoded w = pairs (drop 1 w)

-- the bytes of a byte string that was read from a word
abbrev pub bytes_of : ByteString → List ℕ
bytes_of b = pairs b.digits.now
