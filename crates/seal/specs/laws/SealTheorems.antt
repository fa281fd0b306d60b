-- What the seal is good for: theorems on the definitions of Checksum. Assumes nothing.
use Rattle.std.specs.Prelude.{◌≡◌, refl, List, [], ◌∷◌, true, ◌&&◌, ◌↔◌, ℕ, ◌+◌, ◌-◌, ◌*◌, ◌%◌, ◌^◌, ◌≤◌, ◌<◌, length, drop, leb, eqb}
use Rattle.std.proofs.Common.{sym, ap, ◌∙◌, zero-add, arith, drop_at, le-leb, eq-eqb, leb-true, eqb-true}
use Rattle.std.proofs.lemmas.Bool.{and_parts}
use Rattle.seal.specs.Bytes.{splice, bytes_of, u32_at, u64_at, AreBytes}
use Rattle.seal.specs.laws.WindowLaws.{length_splice}
use Rattle.seal.specs.laws.FieldLaws.{length_bytes_of, field_same, field_join, field_fits, bytes_bytes_of, bytes_splice}
use Rattle.seal.specs.Checksum.{M, words, s1, s2, stored_for, fletcher, verified, sealed, all_words, Balanced}
use Rattle.seal.specs.laws.ChecksumLaws.{s1_append, s2_append}

-- ---- sealing

-- the sum depends only on what is after byte 8
pub fletcher_after : (a b : List ℕ) → drop 8 a ≡ drop 8 b → fletcher a ≡ fletcher b
unfolding fletcher
fletcher_after a b e = rw e

-- sealing changes only the first 8 bytes
pub sealed_after : (l : List ℕ) → drop 8 (sealed l) ≡ drop 8 l
unfolding sealed splice
sealed_after l =
    let c : List ℕ = bytes_of 8 (fletcher l) in
    let e : length c ≡ 8 = length_bytes_of 8 (fletcher l) in
    drop_at c (drop (0 + length c) l) 8 e ∙ ap (λ (n : ℕ). drop n l) (zero-add (length c) ∙ e)

pub sealed_length : (l : List ℕ) → 8 ≤ length l → length (sealed l) ≡ length l
unfolding sealed
sealed_length l h = length_splice l 0 (bytes_of 8 (fletcher l)) (omega (arith, length_bytes_of 8 (fletcher l)))

pub fletcher_sealed : (l : List ℕ) → fletcher (sealed l) ≡ fletcher l
fletcher_sealed l = fletcher_after (sealed l) l (sealed_after l)

-- two words make a sum: it fits 8 bytes
pub stored_fits : (x y : ℕ) → stored_for x y < 2 ^ 64
unfolding stored_for
stored_fits x y = omega arith

pub fletcher_fits : (l : List ℕ) → fletcher l < 2 ^ 64
unfolding fletcher
fletcher_fits l = stored_fits (s1 0 (words (drop 8 l))) (s2 0 0 (words (drop 8 l)))

-- what is stored in a sealed object is its sum
pub sealed_stored : (l : List ℕ) → u64_at (sealed l) 0 ≡ fletcher l
unfolding sealed
sealed_stored l = field_same 8 l 0 (fletcher l) (omega arith) (fletcher_fits l)

-- a block just sealed verifies, whatever it holds
pub sealed_verified : (l : List ℕ) → 32 ≤ length l → length l % 4 ≡ 0 → verified (sealed l) ≡ true
unfolding verified
sealed_verified l h d =
    let n : length (sealed l) ≡ length l = sealed_length l (omega arith) in
    let a : 32 ≤ length (sealed l) = omega arith in
    let b : length (sealed l) % 4 ≡ 0 = omega arith in
    let c : u64_at (sealed l) 0 ≡ fletcher (sealed l) = sealed_stored l ∙ sym (fletcher_sealed l) in
    rw (le-leb 32 (length (sealed l)) a, eq-eqb (length (sealed l) % 4) 0 b, eq-eqb (u64_at (sealed l) 0) (fletcher (sealed l)) c)

-- ---- the Reference's own account

pub first_of_all : (l : List ℕ) → s1 0 (all_words l) ≡ s1 0 (words (drop 8 l)) + u32_at l 0 + u32_at l 4
unfolding s1
first_of_all l = s1_append 0 (words (drop 8 l)) (u32_at l 0 ∷ u32_at l 4 ∷ [])

pub second_of_all : (l : List ℕ) → s2 0 0 (all_words l) ≡ s2 0 0 (words (drop 8 l)) + (s1 0 (words (drop 8 l)) + u32_at l 0) +
    (s1 0 (words (drop 8 l)) + u32_at l 0 + u32_at l 4)
unfolding s2
second_of_all l = s2_append 0 0 (words (drop 8 l)) (u32_at l 0 ∷ u32_at l 4 ∷ [])

-- the stored words, as the formula gives them for the sums x and y
low_of_stored : (x y lo hi : ℕ) → lo < 2 ^ 32 → lo + hi * 2 ^ 32 ≡ stored_for x y → lo ≡ M - (x + y) % M
unfolding stored_for
low_of_stored x y lo hi f e = omega arith

high_of_stored : (x y lo hi : ℕ) → lo < 2 ^ 32 → lo + hi * 2 ^ 32 ≡ stored_for x y → hi ≡ M - (x + lo) % M
unfolding stored_for
high_of_stored x y lo hi f e =
    let a : lo ≡ M - (x + y) % M = omega arith in
    let b : hi ≡ M - (x + (M - (x + y) % M)) % M = omega arith in
    b ∙ ap (λ (n : ℕ). M - (x + n) % M) (sym a)

stored_of_words : (x y lo hi : ℕ) → lo ≡ M - (x + y) % M → hi ≡ M - (x + lo) % M → lo + hi * 2 ^ 32 ≡ stored_for x y
unfolding stored_for
stored_of_words x y lo hi e f =
    let b : hi ≡ M - (x + (M - (x + y) % M)) % M = f ∙ ap (λ (n : ℕ). M - (x + n) % M) e in
    omega arith

-- modulo M: a word is what a number lacks, the low word what x + y lacks, the high word what x and the low word lack
word_balances : (x w : ℕ) → w ≡ M - x % M → (x + w) % M ≡ 0
word_balances x w e = omega arith

sum_balances : (x y lo hi : ℕ) → (x + y + lo) % M ≡ 0 → (x + lo + hi) % M ≡ 0 → (y + (x + lo) + (x + lo + hi)) % M ≡ 0
sum_balances x y lo hi r s = omega arith

low_alone : (x y lo hi : ℕ) → (x + lo + hi) % M ≡ 0 → (y + (x + lo) + (x + lo + hi)) % M ≡ 0 → (x + y + lo) % M ≡ 0
low_alone x y lo hi s t = omega arith

word_unique : (x w : ℕ) → 0 < w → w < 2 ^ 32 → (x + w) % M ≡ 0 → w ≡ M - x % M
word_unique x w z f e = omega arith

-- the stored sum is its two words
pub stored_words : (l : List ℕ) → 8 ≤ length l → u32_at l 0 + u32_at l 4 * 2 ^ 32 ≡ u64_at l 0
stored_words l h = field_join 4 4 l 0 (u32_at l 0) (u32_at l 4) h refl refl

-- an object of bytes that verifies has both sums 0
pub verified_balanced : (l : List ℕ) → AreBytes l → verified l ≡ true → Balanced l
unfolding verified fletcher
verified_balanced l h v =
    let x : ℕ = s1 0 (words (drop 8 l)) in
    let y : ℕ = s2 0 0 (words (drop 8 l)) in
    let lo : ℕ = u32_at l 0 in
    let hi : ℕ = u32_at l 4 in
    let tests = and_parts (leb 32 (length l) && eqb (length l % 4) 0) (eqb (u64_at l 0) (stored_for x y)) v in
    let shape = and_parts (leb 32 (length l)) (eqb (length l % 4) 0) tests.0 in
    let n : 32 ≤ length l = leb-true 32 (length l) shape.0 in
    let d : length l % 4 ≡ 0 = eqb-true (length l % 4) 0 shape.1 in
    let e : u64_at l 0 ≡ stored_for x y = eqb-true (u64_at l 0) (stored_for x y) tests.1 in
    let f : lo < 2 ^ 32 = field_fits 4 l 0 h in
    let w : lo + hi * 2 ^ 32 ≡ stored_for x y = stored_words l (omega arith) ∙ e in
    let p : lo ≡ M - (x + y) % M = low_of_stored x y lo hi f w in
    let q : hi ≡ M - (x + lo) % M = high_of_stored x y lo hi f w in
    let r : (x + y + lo) % M ≡ 0 = word_balances (x + y) lo p in
    let s : (x + lo + hi) % M ≡ 0 = word_balances (x + lo) hi q in
    record {
      long = n;
      whole = d;
      low = omega arith;
      high = omega arith;
      first = rw (first_of_all l) s;
      second = rw (second_of_all l)
          (sum_balances x y lo hi r s);
    }

-- and the other way round
pub balanced_verified : (l : List ℕ) → AreBytes l → Balanced l → verified l ≡ true
unfolding verified fletcher
balanced_verified l h b =
    let x : ℕ = s1 0 (words (drop 8 l)) in
    let y : ℕ = s2 0 0 (words (drop 8 l)) in
    let lo : ℕ = u32_at l 0 in
    let hi : ℕ = u32_at l 4 in
    let n : 32 ≤ length l = b.long in
    let f : lo < 2 ^ 32 = field_fits 4 l 0 h in
    let g : hi < 2 ^ 32 = field_fits 4 l 4 h in
    let s : (x + lo + hi) % M ≡ 0 = rw (first_of_all l) at b.first in
    let t : (y + (x + lo) + (x + lo + hi)) % M ≡ 0 = rw (second_of_all l) at b.second in
    let p : lo ≡ M - (x + y) % M = word_unique (x + y) lo b.low f (low_alone x y lo hi s t) in
    let q : hi ≡ M - (x + lo) % M = word_unique (x + lo) hi b.high g s in
    let e : u64_at l 0 ≡ stored_for x y = sym (stored_words l (omega arith)) ∙ stored_of_words x y lo hi p q in
    rw (le-leb 32 (length l) n, eq-eqb (length l % 4) 0 b.whole, eq-eqb (u64_at l 0) (stored_for x y) e)

-- the Reference's account: an object of bytes verifies exactly when, with the stored words counted in, both its sums are 0
-- modulo 2^32 − 1 (and its length is that of an object, and neither stored word is 0)
pub verified_iff_balanced : (l : List ℕ) → AreBytes l → verified l ≡ true ↔ Balanced l
verified_iff_balanced l h = (verified_balanced l h, balanced_verified l h)

-- so both sums of a block just sealed are 0
pub sealed_balanced : (l : List ℕ) → AreBytes l → 32 ≤ length l → length l % 4 ≡ 0 → Balanced (sealed l)
unfolding sealed
sealed_balanced l h n d =
    verified_balanced (sealed l) (bytes_splice l 0 (bytes_of 8 (fletcher l)) h (bytes_bytes_of 8 (fletcher l))) (sealed_verified l n d)
