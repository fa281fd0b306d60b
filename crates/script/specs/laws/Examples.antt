-- What the definitions come to, on the line (put 12 x0aff) and a few other texts: each is computed. Assumes nothing.
use Rattle.std.specs.Prelude.{◌≡◌, refl, List, [], ◌∷◌, ◌++◌, true, None, Some, ℕ}
use Rattle.std.specs.Fmt.{digits}
use Rattle.std.proofs.Common.{◌≤◌, length, le-ltb}
use Rattle.script.specs.declared.out.TheConstants.{ROOM}
use Rattle.script.specs.Words.{bracketed, inner_of, words_of, word_count, word_of, digit_of, all_digits, spelled, numeral, is_number, number_read}
use Rattle.script.specs.Words.{is_bytes, pairs, decoded}
use Rattle.script.specs.Out.{put, puts, sent, number_text, hex_digit, hex_text, bytes_text}
use Rattle.script.specs.Input.{empty_line, took, filled, after_line}

-- put 12 x0aff
abbrev call : List ℕ
call = 112 ∷ 117 ∷ 116 ∷ 32 ∷ 49 ∷ 50 ∷ 32 ∷ 120 ∷ 48 ∷ 97 ∷ 102 ∷ 102 ∷ []

-- 18446744073709551616, which is 2^64
abbrev over : List ℕ
over = 49 ∷ 56 ∷ 52 ∷ 52 ∷ 54 ∷ 55 ∷ 52 ∷ 52 ∷ 48 ∷ 55 ∷ 51 ∷ 55 ∷ 48 ∷ 57 ∷ 53 ∷ 53 ∷ 49 ∷ 54 ∷ 49 ∷ 54 ∷ []

pub inner_call : inner_of (40 ∷ call ++ (41 ∷ [])) ≡ call
unfolding inner_of bracketed
inner_call = refl

pub count_call : word_count call ≡ 3
unfolding words_of
count_call = refl

pub word_second : word_of call 1 ≡ 49 ∷ 50 ∷ []
unfolding word_of words_of
word_second = refl

pub word_fourth : word_of call 3 ≡ []
unfolding word_of words_of
word_fourth = refl

pub number_second : number_read (word_of call 1) ≡ Some 12
unfolding is_number numeral all_digits spelled digit_of word_of words_of
number_second = refl

pub number_is : is_number (word_of call 1) ≡ true
unfolding is_number numeral all_digits spelled digit_of word_of words_of
number_is = refl

pub number_over : number_read over ≡ None
unfolding is_number numeral all_digits spelled digit_of
number_over = refl

pub number_none : number_read [] ≡ None
unfolding is_number
number_none = refl

pub bytes_third : is_bytes (word_of call 2) ≡ true
unfolding is_bytes word_of words_of
bytes_third = refl

pub decoded_third : decoded (word_of call 2) ≡ 10 ∷ 255 ∷ []
unfolding decoded pairs word_of words_of
decoded_third = refl

-- two bytes in a buffer where one waits
pub puts_room : puts (9 ∷ []) (1 ∷ 2 ∷ []) ≡ 9 ∷ 1 ∷ 2 ∷ []
unfolding puts put
puts_room = refl

-- a byte in a buffer that is full: it waits alone, and what waited is written
pub put_full : (h : List ℕ) → ROOM ≤ length h → put h 1 ≡ 1 ∷ []
unfolding put
put_full h f = rw (le-ltb (length h) ROOM f)

pub sent_full : (h : List ℕ) → ROOM ≤ length h → sent h 1 ≡ h
unfolding sent
sent_full h f = rw (le-ltb (length h) ROOM f)

pub text_1203 : number_text 1203 ≡ 32 ∷ 49 ∷ 50 ∷ 48 ∷ 51 ∷ []
unfolding digits
text_1203 = refl

pub text_zero : number_text 0 ≡ 32 ∷ 48 ∷ []
unfolding digits
text_zero = refl

pub text_bytes : bytes_text (10 ∷ 255 ∷ []) ≡ 32 ∷ 120 ∷ 48 ∷ 97 ∷ 102 ∷ 102 ∷ []
unfolding hex_text hex_digit
text_bytes = refl

-- a line of three bytes and a line feed, in a room of two: it is longer than its room, and the rest is behind the line feed
pub filled_long : filled (empty_line (0 ∷ 0 ∷ [])) (97 ∷ 98 ∷ 99 ∷ 10 ∷ 100 ∷ []) ≡ record { room = 97 ∷ 98 ∷ []; len = 2; long = true }
unfolding filled took
filled_long = refl

pub after_long : after_line (97 ∷ 98 ∷ 99 ∷ 10 ∷ 100 ∷ []) ≡ 100 ∷ []
unfolding after_line
after_long = refl
