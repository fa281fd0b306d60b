-- Laws of a field that is read and written by way of a word of 8 bytes, as std converts it. Assumes nothing.
use Rattle.std.specs.Prelude.{◌≡◌, refl, List, [], ◌∷◌, ◌++◌, ℕ, zero, suc, ◌+◌, ◌*◌, ◌-◌, ◌/◌, ◌%◌, ◌^◌, ◌≤◌, ◌<◌, length, take, drop, get_or, replicate}
use Rattle.std.proofs.Common.{Fits, sym, ap, ◌∙◌, arith, length-append, length-drop, length-take-le, take-suc, take_all}
use Rattle.std.proofs.Math.Nat.{pow-suc, div-one, div-div-eq-div-mul}
use Rattle.std.proofs.lemmas.List.{length-replicate, drop-replicate}
use Rattle.std.specs.Int.{w8, w64, from_le_bytes, to_le_bytes, sum_through, byte_worth, bytes_low_first}
use Rattle.seal.specs.Bytes.{window, splice, le, bytes_of, field_at}
use Rattle.seal.specs.laws.FieldLaws.{le_append, length_bytes_of, field_fits}
use Rattle.seal.specs.laws.PartLaws.{part_stored}

-- ---- read

le_zeros : (k : ℕ) → le (replicate k 0) ≡ 0
unfolding le
le_zeros zero = refl
le_zeros (suc k) = rw (le_zeros k) refl

-- std's sum of what each byte is worth
sum_is_le : (l : List ℕ) (k : ℕ) → k < length l → sum_through (λ i. byte_worth i (get_or l i 0)) k ≡ le (take (suc k) l)
unfolding le
sum_is_le [] zero h = absurd (omega arith)
sum_is_le (x ∷ l) zero h = omega arith
sum_is_le l (suc k) h =
    let h' : k < length l = omega arith in
    let e : length (take (suc k) l) ≡ suc k = length-take-le (suc k) l (omega arith) in
    rw (sum_is_le l k h', take-suc l (suc k) 0 h, le_append, e) (omega arith)

word_is_le : (l : List ℕ) → length l ≡ 8 → from_le_bytes w64 l ≡ le l
word_is_le l e = sum_is_le l 7 (omega arith) ∙ ap le (take_all 8 l (omega arith))

-- n bytes before zeros spell what they spell alone
pub field_read : (n i x : ℕ) (l d : List ℕ) → n ≤ 8 → i + n ≤ length l → d ≡ take (i + n - i) (drop i l)
    → x ≡ from_le_bytes w64 (d ++ drop n (replicate 8 0)) → x ≡ field_at n l i
unfolding field_at window
field_read n i x l d h r e f =
    let k : i + n - i ≡ n = omega arith in
    let e' : d ≡ take n (drop i l) = rw k at e in
    let m : length d ≡ n = ap length e' ∙ length-take-le n (drop i l) (rw length-drop (omega arith)) in
    let z : List ℕ = replicate (8 - n) 0 in
    let w : length (d ++ z) ≡ 8 = simp (length-append, length-replicate) (omega arith) in
    let p : le (d ++ z) ≡ le d = rw (le_append d z, le_zeros (8 - n)) (omega arith) in
    let q : x ≡ from_le_bytes w64 (d ++ z) = rw drop-replicate at f in
    q ∙ word_is_le (d ++ z) w ∙ p ∙ ap le e'

-- so it is below what its width can hold
pub field_read_fits : (n i x : ℕ) (l d : List ℕ) → n ≤ 8 → i + n ≤ length l → d ≡ take (i + n - i) (drop i l)
    → x ≡ from_le_bytes w64 (d ++ drop n (replicate 8 0)) → ((j : ℕ) → Fits w8 (get_or l j 0)) → x < 256 ^ n
field_read_fits n i x l d h r e f b = rw (field_read n i x l d h r e f) (field_fits n l i (λ (j : ℕ). (b j).fits))

-- ---- write

-- std's list of bytes, each found by itself
low_is_bytes : (i k x : ℕ) → bytes_low_first i k x ≡ bytes_of k (x / 256 ^ i)
unfolding bytes_of
low_is_bytes i zero x = refl
low_is_bytes zero (suc k) x = simp div-one (ap (λ (q : List ℕ). x % 256 ∷ q) (low_is_bytes 1 k x))
low_is_bytes (suc i) (suc k) x =
    let p : 256 ^ suc (suc i) ≡ 256 ^ suc i * 256 = pow-suc 256 (suc i) in
    rw (low_is_bytes (suc (suc i)) k x, div-div-eq-div-mul, p)

take_bytes_of : (n m x : ℕ) → n ≤ m → take n (bytes_of m x) ≡ bytes_of n x
unfolding bytes_of
take_bytes_of zero m x h = refl
take_bytes_of (suc n) zero x h = absurd (omega arith)
take_bytes_of (suc n) (suc m) x h = ap (λ (q : List ℕ). x % 256 ∷ q) (take_bytes_of n m (x / 256) (omega arith))

pub field_written : (n i x : ℕ) (l w d : List ℕ) → n ≤ 8 → i + n ≤ length l → w ≡ to_le_bytes w64 x → d ≡ take n w
    → take i l ++ (d ++ drop (i + n - i) (drop i l)) ≡ splice l i (bytes_of n x)
field_written n i x l w d h r e f =
    let k : i + n - i ≡ n = omega arith in
    let o : w ≡ bytes_of 8 x = e ∙ low_is_bytes 0 8 x ∙ ap (bytes_of 8) (div-one x) in
    let v : d ≡ bytes_of n x = f ∙ ap (take n) o ∙ take_bytes_of n 8 x h in
    rw k (part_stored l i n d (bytes_of n x) (sym (length_bytes_of n x)) v)
