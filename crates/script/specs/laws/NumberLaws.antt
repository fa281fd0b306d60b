-- Laws of decimal numbers in words. Assumes nothing.
use Rattle.std.specs.Prelude.{◌≡◌, refl, List, [], ◌∷◌, Option, None, Some, is_some, Bool, true, false, ◌&&◌, cond, ℕ, suc, ◌+◌, ◌-◌, ◌*◌, ◌^◌, ◌≤◌, ◌<◌, min, max, length, drop, get_or, ltb}
use Rattle.std.proofs.Common.{sym, ap, ◌∙◌, le_refl, add-one, mul-le-mul, arith, drop-cons, drop_of_length-le, le-leb, lt-ltb, le-ltb, ⊎_elim}
use Rattle.std.proofs.Math.Bool.{and-false}
use Rattle.std.proofs.lemmas.Bool.{lt-leb, cases_lt}
use Rattle.script.specs.Number.{most, product}
use Rattle.script.specs.Words.{digit_of, all_digits, spelled, numeral, is_number, number_read, u32_read, number_of, is_u32, are_numbers, word_of}

-- the number that a text makes of n, where it does
unfoldable pub made : ℕ → List ℕ → Option ℕ
made n w = cond (numeral n w) (Some (spelled n w)) None

-- what is spelled is at least what stands before it
spelled_least : (w : List ℕ) (n : ℕ) → n ≤ spelled n w
unfolding spelled
spelled_least [] n = le_refl n
spelled_least (b ∷ w) n =
    let p : n * 10 + digit_of b ≤ spelled (n * 10 + digit_of b) w = spelled_least w (n * 10 + digit_of b) in
    omega arith

made_cons : (b n : ℕ) (w : List ℕ) → digit_of b < 10 → made n (b ∷ w) ≡ made (n * 10 + digit_of b) w
unfolding made numeral all_digits spelled
made_cons b n w h =
    let g : digit_of b ≤ 9 = omega arith in
    rw (le-leb (digit_of b) 9 g)

made_letter : (b n : ℕ) (w : List ℕ) → 10 ≤ digit_of b → made n (b ∷ w) ≡ None
unfolding made numeral all_digits spelled
made_letter b n w h =
    let g : 9 < digit_of b = omega arith in
    rw (lt-leb (digit_of b) 9 g)

made_over : (b n : ℕ) (w : List ℕ) → 2 ^ 64 ≤ n * 10 + digit_of b → made n (b ∷ w) ≡ None
unfolding made numeral all_digits spelled
made_over b n w h =
    let p : most < spelled (n * 10 + digit_of b) w = omega (arith, spelled_least w (n * 10 + digit_of b)) in
    rw (lt-leb (spelled (n * 10 + digit_of b) w) most p, and-false)

made_none : (b n : ℕ) (w : List ℕ) → (digit_of b < 10 × n * 10 + digit_of b < 2 ^ 64 → ⊥) → made n (b ∷ w) ≡ None
made_none b n w h = ⊎_elim
    (λ (l : digit_of b < 10). ⊎_elim (λ (k : n * 10 + digit_of b < 2 ^ 64). absurd (h (l, k)))
    (λ (k : 2 ^ 64 ≤ n * 10 + digit_of b). made_over b n w k) (cases_lt (n * 10 + digit_of b) (2 ^ 64)))
    (λ (l : 10 ≤ digit_of b). made_letter b n w l) (cases_lt (digit_of b) 10)

-- ---- what is left from i on makes of n what all makes of 0

pub number_none : (w : List ℕ) → length w ≡ 0 → number_read w ≡ None
unfolding is_number
number_none w h = rw h

pub number_start : (w : List ℕ) → 0 < length w → number_read w ≡ made 0 (drop 0 w)
unfolding is_number made
number_start w h =
    let g : 1 ≤ length w = omega arith in
    rw (le-leb 1 (length w) g)

pub number_stop : (w : List ℕ) (i n : ℕ) → i < length w → (digit_of (get_or w i 0) < 10 × n * 10 + digit_of (get_or w i 0) < 2 ^ 64 → ⊥)
    → made n (drop i w) ≡ None
number_stop w i n h k = rw (drop-cons w i 0 h) (made_none (get_or w i 0) n (drop (suc i) w) k)

pub number_turn : (w : List ℕ) (i n : ℕ) → i < length w → digit_of (get_or w i 0) < 10
    → made n (drop i w) ≡ made (n * 10 + digit_of (get_or w i 0)) (drop (i + 1) w)
number_turn w i n h k = rw (drop-cons w i 0 h, add-one) (made_cons (get_or w i 0) n (drop (suc i) w) k)

pub number_end : (w : List ℕ) (i n : ℕ) → length w ≤ i → n < 2 ^ 64 → made n (drop i w) ≡ Some n
unfolding made numeral all_digits spelled
number_end w i n h k =
    let g : n ≤ most = omega arith in
    rw (drop_of_length-le w h, le-leb n most g)

pub ruleset numbers = (number_none, number_start, number_stop, number_turn, number_end)

-- ---- what a word that is any spells, at most the greatest number

-- what is spelled behind the greatest number is no less
spelled_min : (w : List ℕ) (n : ℕ) → min (spelled (min n most) w) most ≡ min (spelled n w) most
spelled_min w n = ⊎_elim
    (λ (h : n < 2 ^ 64). let e : min n most ≡ n = omega arith in rw e)
    (λ (h : 2 ^ 64 ≤ n).
    let e : min n most ≡ most = omega arith in
    let p : most ≤ spelled most w = spelled_least w most in
    let q : n ≤ spelled n w = spelled_least w n in
    rw e (omega arith))
    (cases_lt n (2 ^ 64))

pub most_start : (w : List ℕ) → min (spelled 0 (drop 0 w)) most ≡ number_of w
unfolding number_of
most_start w = refl

pub most_turn : (w : List ℕ) (i n : ℕ) → i < length w
    → min (spelled n (drop i w)) most ≡ min (spelled (min (min (n * 10) most + digit_of (get_or w i 0)) most) (drop (i + 1) w)) most
unfolding spelled
most_turn w i n h =
    let m : ℕ = n * 10 + digit_of (get_or w i 0) in
    let e : min (min (n * 10) most + digit_of (get_or w i 0)) most ≡ min (n * 10 + digit_of (get_or w i 0)) most = omega arith in
    rw (drop-cons w i 0 h, e, add-one) (sym (spelled_min (drop (suc i) w) m))

pub most_end : (w : List ℕ) (i n : ℕ) → length w ≤ i → n < 2 ^ 64 → min (spelled n (drop i w)) most ≡ n
unfolding spelled
most_end w i n h k = rw (drop_of_length-le w h) (omega arith)

pub ruleset mosts = (most_start, most_turn, most_end)

-- ---- whether there is a number

some_where : (b : Bool) (x : ℕ) → is_some (cond b (Some x) None) ≡ b
some_where true x = refl
some_where false x = refl

pub number_there : (w : List ℕ) → is_some (number_read w) ≡ is_number w
number_there w = some_where (is_number w) (spelled 0 w)

-- a number that is cut at the greatest is below 2^32 where it was
most_u32 : (n : ℕ) → ltb n (2 ^ 32) ≡ ltb (min n most) (2 ^ 32)
most_u32 n = ⊎_elim
    (λ (h : n < 2 ^ 32). let k : min n most < 2 ^ 32 = omega arith in lt-ltb n (2 ^ 32) h ∙ sym (lt-ltb (min n most) (2 ^ 32) k))
    (λ (h : 2 ^ 32 ≤ n). let k : 2 ^ 32 ≤ min n most = omega arith in le-ltb n (2 ^ 32) h ∙ sym (le-ltb (min n most) (2 ^ 32) k))
    (cases_lt n (2 ^ 32))

pub u32_there : (w : List ℕ) → is_some (u32_read w) ≡ is_u32 w
unfolding is_u32 number_of
u32_there w = some_where (is_number w && ltb (spelled 0 w) (2 ^ 32)) (spelled 0 w)
    ∙ ap (λ (b : Bool). is_number w && b) (most_u32 (spelled 0 w))

-- ---- whether there are numbers, from word k on up to another

are_cons : (s : List ℕ) (k to : ℕ) → k < to → are_numbers s k (to - k) ≡ (is_number (word_of s k) && are_numbers s (k + 1) (to - (k + 1)))
unfolding are_numbers
are_cons s k to h =
    let e : to - k ≡ suc (to - (k + 1)) = omega arith in
    rw e

pub are_not : (s : List ℕ) (k to : ℕ) → k < to → is_number (word_of s k) ≡ false → are_numbers s k (to - k) ≡ false
are_not s k to h e = rw (are_cons s k to h, e)

pub are_turn : (s : List ℕ) (k to : ℕ) → k < to → is_number (word_of s k) ≡ true → are_numbers s k (to - k) ≡ are_numbers s (k + 1) (to - (k + 1))
are_turn s k to h e = rw (are_cons s k to h, e)

pub are_done : (s : List ℕ) (k to : ℕ) → to ≤ k → are_numbers s k (to - k) ≡ true
unfolding are_numbers
are_done s k to h =
    let z : to - k ≡ 0 = omega arith in
    rw z

pub ruleset all_numbers = (are_not, are_turn, are_done)

-- ---- products that stop short

pub times_over : (a b : ℕ) → 0xFFFFFFFF < max a b → 0 ≡ product a b
unfolding product
times_over a b h = ⊎_elim
    (λ (k : a < 2 ^ 32). let g : 2 ^ 32 ≤ b = omega arith in rw (le-ltb b (2 ^ 32) g, and-false))
    (λ (k : 2 ^ 32 ≤ a). rw (le-ltb a (2 ^ 32) k))
    (cases_lt a (2 ^ 32))

pub times_both : (a b : ℕ) → max a b ≤ 0xFFFFFFFF → a * b ≡ product a b
unfolding product
times_both a b h =
    let g : a < 2 ^ 32 = omega arith in
    let l : b < 2 ^ 32 = omega arith in
    rw (lt-ltb a (2 ^ 32) g, lt-ltb b (2 ^ 32) l)

pub times_fits : (a b : ℕ) → max a b ≤ 0xFFFFFFFF → a * b < 2 ^ 64
times_fits a b h =
    let g : a ≤ 0xFFFFFFFF = omega arith in
    let l : b ≤ 0xFFFFFFFF = omega arith in
    omega (arith, mul-le-mul g l)

pub ruleset products = (times_over, times_both, times_fits)
