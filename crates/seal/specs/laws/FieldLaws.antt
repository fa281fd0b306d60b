-- Laws of little-endian numbers and of fields at an offset, each once over the width. Assumes nothing.
use Rattle.std.specs.Prelude.{◌≡◌, refl, List, [], ◌∷◌, ◌++◌, ℕ, zero, suc, ◌+◌, ◌*◌, ◌/◌, ◌^◌, ◌≤◌, ◌<◌, length, take, drop, get_or}
use Rattle.std.proofs.Common.{sym, ap, ◌∙◌, zero-add, suc-add, one-mul, mul_assoc, mul-add, div-one, add_assoc, mul_comm, arith, drop-drop, get_or-drop}
use Rattle.std.proofs.Math.Nat.{pow-zero, pow-succ', div-div-eq-div-mul}
use Rattle.seal.specs.Bytes.{window, splice, le, bytes_of, field_at, AreBytes}
use Rattle.seal.specs.laws.WindowLaws.{length_window, window_add, window_one, window_window, splice_two, window_splice_before, window_splice_after, window_splice_same}

pub length_bytes_of : (n x : ℕ) → length (bytes_of n x) ≡ n
unfolding bytes_of
length_bytes_of zero x = refl
length_bytes_of (suc n) x = ap suc (length_bytes_of n (x / 256))

pub le_append : (a b : List ℕ) → le (a ++ b) ≡ le a + 256 ^ length a * le b
unfolding le
le_append [] b = sym (simp (pow-zero, one-mul, zero-add))
le_append (x ∷ xs) b = simp (le_append xs b, pow-succ', mul-add, mul_assoc, add_assoc)

pub le_window : (i n m : ℕ) (l : List ℕ) → i + n ≤ length l → le (window i (n + m) l) ≡ le (window i n l) + 256 ^ n * le (window (i + n) m l)
le_window i n m l h =
    let e : length (window i n l) ≡ n = length_window i n l h in
    ap le (window_add i n m l) ∙ le_append (window i n l) (window (i + n) m l)
    ∙ ap (λ (k : ℕ). le (window i n l) + 256 ^ k * le (window (i + n) m l)) e

pub le_bytes_of : (n x : ℕ) → x < 256 ^ n → le (bytes_of n x) ≡ x
unfolding le bytes_of
le_bytes_of zero x h = omega (arith, rw pow-zero at h)
le_bytes_of (suc n) x h =
    let below : x / 256 < 256 ^ n = omega (arith, rw pow-succ' at h) in
    rw (le_bytes_of n (x / 256) below) (omega arith)

-- ---- a field put together

-- two fields side by side are one
pub field_join : (n m : ℕ) (l : List ℕ) (i a b : ℕ) → i + (n + m) ≤ length l → a ≡ field_at n l i → b ≡ field_at m l (i + n)
    → a + b * 256 ^ n ≡ field_at (n + m) l i
unfolding field_at
field_join n m l i a b h p q = rw (p, q, mul_comm (le (window (i + n) m l)) (256 ^ n)) (sym (le_window i n m l (omega arith)))

-- a field of one byte is that byte
pub field_one : (l : List ℕ) (i : ℕ) → i < length l → get_or l i 0 ≡ field_at 1 l i
unfolding field_at le
field_one l i h = rw (window_one i l h) (omega arith)

-- ---- a field read after a write

-- at the same place
pub field_same : (n : ℕ) (l : List ℕ) (i x : ℕ) → i ≤ length l → x < 256 ^ n → field_at n (splice l i (bytes_of n x)) i ≡ x
unfolding field_at
field_same n l i x h f = ap (λ (k : ℕ). le (window i k (splice l i (bytes_of n x)))) (sym (length_bytes_of n x))
    ∙ ap le (window_splice_same l i (bytes_of n x) h) ∙ le_bytes_of n x f

-- before it
pub field_before : (n : ℕ) (l : List ℕ) (i : ℕ) (vs : List ℕ) (j : ℕ) → j + n ≤ i → i ≤ length l → field_at n (splice l i vs) j ≡ field_at n l j
unfolding field_at
field_before n l i vs j h k = rw window_splice_before

-- after it
pub field_after : (n : ℕ) (l : List ℕ) (i : ℕ) (vs : List ℕ) (j : ℕ) → i + length vs ≤ j → i ≤ length l
    → field_at n (splice l i vs) j ≡ field_at n l j
unfolding field_at
field_after n l i vs j h k = rw window_splice_after

-- a field of a window
pub field_window : (n a m : ℕ) (l : List ℕ) (i : ℕ) → i + n ≤ m → field_at n (window a m l) i ≡ field_at n l (a + i)
unfolding field_at
field_window n a m l i h = rw window_window

-- ---- lists of bytes

pub bytes_take : (n : ℕ) (l : List ℕ) → AreBytes l → AreBytes (take n l)
bytes_take zero l h i = omega arith
bytes_take (suc n) [] h i = omega arith
bytes_take (suc n) (x ∷ l) h zero = h 0
bytes_take (suc n) (x ∷ l) h (suc i) = bytes_take n l (λ (j : ℕ). h (suc j)) i

pub bytes_drop : (n : ℕ) (l : List ℕ) → AreBytes l → AreBytes (drop n l)
bytes_drop n l h i = rw get_or-drop (h (n + i))

pub bytes_append : (l k : List ℕ) → AreBytes l → AreBytes k → AreBytes (l ++ k)
bytes_append [] k h g i = g i
bytes_append (x ∷ l) k h g zero = h 0
bytes_append (x ∷ l) k h g (suc i) = bytes_append l k (λ (j : ℕ). h (suc j)) g i

pub bytes_splice : (l : List ℕ) (i : ℕ) (vs : List ℕ) → AreBytes l → AreBytes vs → AreBytes (splice l i vs)
unfolding splice
bytes_splice l i vs h g = bytes_append (take i l ++ vs) (drop (i + length vs) l) (bytes_append (take i l) vs (bytes_take i l h) g)
    (bytes_drop (i + length vs) l h)

pub bytes_bytes_of : (n x : ℕ) → AreBytes (bytes_of n x)
unfolding bytes_of
bytes_bytes_of zero x i = omega arith
bytes_bytes_of (suc n) x zero = omega arith
bytes_bytes_of (suc n) x (suc i) = bytes_bytes_of n (x / 256) i

le_fits : (n : ℕ) (l : List ℕ) → AreBytes l → le (take n l) < 256 ^ n
unfolding le
le_fits zero l h = rw pow-zero (omega arith)
le_fits (suc n) [] h = rw pow-succ' (omega (arith, le_fits n [] h))
le_fits (suc n) (x ∷ l) h = rw pow-succ' (omega (arith, h 0, le_fits n l (λ (j : ℕ). h (suc j))))

-- a field of bytes is below what its width can hold
pub field_fits : (n : ℕ) (l : List ℕ) (i : ℕ) → AreBytes l → field_at n l i < 256 ^ n
unfolding field_at window
field_fits n l i h = le_fits n (drop i l) (bytes_drop i l h)

-- a field of what stands from a on
pub field_drop : (n a : ℕ) (l : List ℕ) (i : ℕ) → field_at n (drop a l) i ≡ field_at n l (a + i)
unfolding field_at window
field_drop n a l i = ap (λ (q : List ℕ). le (take n q)) (drop-drop i a l)

-- ---- a field written in two parts

-- the lowest n + m bytes of x are its lowest n, and then the lowest m of the rest
pub bytes_of_add : (n m x : ℕ) → bytes_of (n + m) x ≡ bytes_of n x ++ bytes_of m (x / 256 ^ n)
unfolding bytes_of
bytes_of_add zero m x = simp (zero-add, pow-zero, div-one)
bytes_of_add (suc n) m x = rw (suc-add, bytes_of_add n m (x / 256), div-div-eq-div-mul, pow-succ')

-- l with the low n bytes of x, and then with m of the rest after them
pub put_join : (l l₁ l₂ : List ℕ) (i n m x : ℕ) → i + (n + m) ≤ length l → l₁ ≡ splice l i (bytes_of n x)
    → l₂ ≡ splice l₁ (i + n) (bytes_of m (x / 256 ^ n)) → l₂ ≡ splice l i (bytes_of (n + m) x)
put_join l l₁ l₂ i n m x h p q =
    let e : length (bytes_of n x) ≡ n = length_bytes_of n x in
    let f : length (bytes_of m (x / 256 ^ n)) ≡ m = length_bytes_of m (x / 256 ^ n) in
    q ∙ ap (λ (k : List ℕ). splice k (i + n) (bytes_of m (x / 256 ^ n))) p
    ∙ ap (λ (k : ℕ). splice (splice l i (bytes_of n x)) (i + k) (bytes_of m (x / 256 ^ n))) (sym e)
    ∙ splice_two l i (bytes_of n x) (bytes_of m (x / 256 ^ n)) (omega arith)
    ∙ ap (splice l i) (sym (bytes_of_add n m x))
