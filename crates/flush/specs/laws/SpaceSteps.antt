-- Laws of the code over blocks: bits by shifts and masks, a byte at a time, a chunk at a time. One for each turn and each way out. Assumes nothing.
use Rattle.std.specs.Prelude.{◌≡◌, Bool, ◌&&◌, not, ℕ, zero, suc, ◌+◌, ◌-◌, ◌*◌, ◌/◌, ◌%◌, ◌^◌, ◌≤◌, ◌<◌, min, set, drop, eqb}
use Rattle.std.proofs.Math.Path.{refl, sym, ap}
use Rattle.std.proofs.Common.{ap₂, ◌∙◌, pow-suc, mul-le-mul_right, mul_left_comm, add-zero, add-one, length-set, drop_of_length-le, pow_pos, shl_exact}
use mathlib.Core.List.{List, [], ◌∷◌}
use Rattle.std.proofs.Math.Bool.{true, false, cond}
use Rattle.std.proofs.Math.Nat.{div-div-eq-div-mul, div-mul-le_self, lt-div-mul-add, zero-add, mul-mod_right}
use native.Mathlib.Omega.{arith}
use Rattle.std.proofs.Math.ListN.{length, get_or}
use Rattle.std.proofs.lemmas.List.{set-get_or}
use Rattle.std.proofs.Math.Seq.{drop-cons}
use Rattle.std.proofs.Math.Dec.{leb}
use Rattle.std.specs.List.{fold, sum_by, range_with_len, enumerate_from, list_all}
use Rattle.std.specs.Int.Bits.{bit_and, bit_or, or_add_and}
use Rattle.std.proofs.lemmas.Nat.{and_mask, mod-pow-add}
use Rattle.std.proofs.lemmas.Nat.Bits.{and_high}
use Rattle.std.specs.Int.{div_ceil, trailing_ones, w8}
use Rattle.std.specs.Int.Count.{ones, ones_step, count_trailing_zeros}
use borrow.Author.Tests.{ltb-true, ltb-false, eqb-true, eqb-false, eq-eqb, ne_eqb, leb-true, leb-false, le-leb, lt-leb}
use Rattle.tree.specs.laws.base.Node.{by_test, never, and_split, and-false}
use Rattle.tree.specs.Lent.{is_size}
use Rattle.flush.specs.Space.{Space, Choice, space_of, chunk_blocks, is_used, mark_used, ones_below, first_zero, first_free, zeros_below, zeros, choose_from, choose, choice_means, taken, allocated, lesser, usable_from, usable, chunks_hold, space_holds, Held}
use Rattle.flush.specs.laws.SpaceLaws.{Chosen, chosen, mark_length_lem}
use Rattle.std.specs.Prelude.{Option, Some, None, option_to_list, ltb}
use Rattle.std.specs.Bool.{then_some}
use Rattle.flush.specs.declared.space.Choice as code

-- ---- one bit

-- a mask of 1 is the lowest bit
pub used_is : (bm : List ℕ) (a : ℕ) → eqb (bit_and (get_or bm (a / 8) 0 / 2 ^ (a % 8)) 1) 1 ≡ is_used bm a
unfolding is_used
used_is bm a = ap (λ (y : ℕ). eqb y 1) (and_mask (get_or bm (a / 8) 0 / 2 ^ (a % 8)) 1)

-- 1 shifted within a byte
bit_is : (k : ℕ) → k < 8 → (1 * 2 ^ k) % 2 ^ 8 ≡ 2 ^ k
bit_is k h = shl_exact 1 k 8 (omega arith) (omega arith) ∙ omega arith

-- the bit of x that a mask of one bit keeps
kept_is : (x k : ℕ) → bit_and x (2 ^ k) ≡ x / 2 ^ k % 2 * 2 ^ k
kept_is x k =
    let o : 1 + k ≡ suc k = omega arith in
    let p : 2 ^ (1 + k) ≡ 2 ^ k * 2 = ap (λ (y : ℕ). 2 ^ y) o ∙ pow-suc 2 k in
    let q : 2 ^ (1 + k) - 2 ^ k ≡ 2 ^ k = omega arith in
    ap (bit_and x) (sym q) ∙ and_high x 1 k

-- a bit that is 1 stays, a bit that is 0 is added
or_used : (x k : ℕ) → x / 2 ^ k % 2 ≡ 1 → bit_or x (2 ^ k) ≡ x
or_used x k e =
    let s : bit_or x (2 ^ k) + bit_and x (2 ^ k) ≡ x + 2 ^ k = or_add_and x (2 ^ k) in
    let q : bit_and x (2 ^ k) ≡ 2 ^ k = kept_is x k ∙ ap (λ (y : ℕ). y * 2 ^ k) e ∙ omega arith in
    omega arith

or_free : (x k : ℕ) → (x / 2 ^ k % 2 ≡ 1 → ⊥) → bit_or x (2 ^ k) ≡ x + 2 ^ k
or_free x k n =
    let s : bit_or x (2 ^ k) + bit_and x (2 ^ k) ≡ x + 2 ^ k = or_add_and x (2 ^ k) in
    let z : x / 2 ^ k % 2 ≡ 0 = omega arith in
    let q : bit_and x (2 ^ k) ≡ 0 = kept_is x k ∙ ap (λ (y : ℕ). y * 2 ^ k) z ∙ omega arith in
    omega arith

pub marked_is : (bm : List ℕ) (a : ℕ) → set bm (a / 8) (bit_or (get_or bm (a / 8) 0) ((1 * 2 ^ (a % 8)) % 2 ^ 8)) ≡ mark_used bm a
unfolding mark_used is_used
marked_is bm a =
    let b : (1 * 2 ^ (a % 8)) % 2 ^ 8 ≡ 2 ^ (a % 8) = bit_is (a % 8) (omega arith) in
    by_test (eqb (get_or bm (a / 8) 0 / 2 ^ (a % 8) % 2) 1)
    (λ t. rw (b, or_used (get_or bm (a / 8) 0) (a % 8) (eqb-true (get_or bm (a / 8) 0 / 2 ^ (a % 8) % 2) 1 t), t) (set-get_or bm (a / 8) 0))
    (λ t. rw (b, or_free (get_or bm (a / 8) 0) (a % 8) (eqb-false (get_or bm (a / 8) 0 / 2 ^ (a % 8) % 2) 1 t), t))

-- ---- the bits of one byte

-- one bit further
halved : (x j : ℕ) → x / 2 ^ j / 2 ≡ x / 2 ^ suc j
halved x j = div-div-eq-div-mul x (2 ^ j) 2 ∙ ap (λ (y : ℕ). x / y) (sym (pow-suc 2 j))

-- bit j of the byte at a
bit_at : (bm : List ℕ) (a j : ℕ) → a % 8 ≡ 0 → j < 8 → is_used bm (a + j) ≡ eqb (get_or bm (a / 8) 0 / 2 ^ j % 2) 1
unfolding is_used
bit_at bm a j e h =
    let p : (a + j) / 8 ≡ a / 8 = omega arith in
    let q : (a + j) % 8 ≡ j = omega arith in
    rw (p, q)

ones_most : (k x : ℕ) → ones_below k x ≤ k
unfolding ones_below
ones_most zero x = omega arith
ones_most (suc k) x = by_test (eqb (x % 2) 1) (λ t. let i = ones_most k (x / 2) in rw t (omega arith)) (λ t. rw t (omega arith))

pub zero_most : (x : ℕ) → first_zero x ≤ 8
unfolding first_zero
zero_most x = ones_most 8 x

-- the 1 bits at the start of a byte, as the library counts them
zeros_ones : (k x : ℕ) → x < 2 ^ k → count_trailing_zeros k (2 ^ k - 1 - x) ≡ ones_below k x
unfolding count_trailing_zeros ones_below
zeros_ones zero x h = refl
zeros_ones (suc k) x h =
    let p : 2 ^ suc k ≡ 2 ^ k * 2 = pow-suc 2 k in
    let q : (2 ^ suc k - 1 - x) / 2 ≡ 2 ^ k - 1 - x / 2 = omega (arith, p) in
    let i : count_trailing_zeros k (2 ^ k - 1 - x / 2) ≡ ones_below k (x / 2) = zeros_ones k (x / 2) (omega (arith, p)) in
    by_test (eqb (x % 2) 1)
    (λ t. let e : x % 2 ≡ 1 = eqb-true (x % 2) 1 t in let r : (2 ^ suc k - 1 - x) % 2 ≡ 0 = omega (arith, p) in rw (r, q, i, t))
    (λ t. let e : x % 2 ≡ 1 → ⊥ = eqb-false (x % 2) 1 t in let r : (2 ^ suc k - 1 - x) % 2 ≡ 1 = omega (arith, p) in rw (r, t))

pub ones_first : (x : ℕ) → x < 2 ^ 8 → trailing_ones w8 x ≡ first_zero x
unfolding first_zero
ones_first x h = zeros_ones 8 x h

-- the 1 bits at a byte's start are passed over
past_ones : (bm : List ℕ) (a k j m : ℕ) → a % 8 ≡ 0 → k + j ≤ 8
    → first_free bm m (a + j) ≡ first_free bm (m - ones_below k (get_or bm (a / 8) 0 / 2 ^ j)) (a + j + ones_below k (get_or bm (a / 8) 0 / 2 ^ j))
unfolding ones_below first_free
past_ones bm a zero j m e h = let z : m - 0 ≡ m = omega arith in rw (z, add-zero (a + j))
past_ones bm a (suc k) j zero e h = let z : 0 - ones_below (suc k) (get_or bm (a / 8) 0 / 2 ^ j) ≡ 0 = omega arith in rw z
past_ones bm a (suc k) j (suc m) e h =
    let b : is_used bm (a + j) ≡ eqb (get_or bm (a / 8) 0 / 2 ^ j % 2) 1 = bit_at bm a j e (omega arith) in
    by_test (eqb (get_or bm (a / 8) 0 / 2 ^ j % 2) 1)
    (λ t.
    let z : ℕ = ones_below k (get_or bm (a / 8) 0 / 2 ^ suc j) in
    let i : first_free bm m (a + suc j) ≡ first_free bm (m - z) (a + suc j + z) = past_ones bm a k (suc j) m e (omega arith) in
    let s : a + suc j ≡ suc (a + j) = omega arith in
    let d : suc m - suc z ≡ m - z = omega arith in
    let f : a + j + suc z ≡ a + suc j + z = omega arith in
    rw (b, t, halved (get_or bm (a / 8) 0) j, d, f) (ap (first_free bm m) (sym s) ∙ i))
    (λ t. let z : suc m - 0 ≡ suc m = omega arith in rw (b, t, z, add-zero (a + j), b, t))

-- the bit after them is 0, if it is one of the byte's
free_after : (bm : List ℕ) (a k j : ℕ) → a % 8 ≡ 0 → k + j ≤ 8 → ones_below k (get_or bm (a / 8) 0 / 2 ^ j) < k
    → is_used bm (a + j + ones_below k (get_or bm (a / 8) 0 / 2 ^ j)) ≡ false
unfolding ones_below
free_after bm a zero j e h l = absurd (omega arith)
free_after bm a (suc k) j e h l =
    let b : is_used bm (a + j) ≡ eqb (get_or bm (a / 8) 0 / 2 ^ j % 2) 1 = bit_at bm a j e (omega arith) in
    by_test (eqb (get_or bm (a / 8) 0 / 2 ^ j % 2) 1)
    (λ t.
    let g : suc (ones_below k (get_or bm (a / 8) 0 / 2 ^ suc j)) < suc k = rw (t, halved (get_or bm (a / 8) 0) j) at l in
    let i = free_after bm a k (suc j) e (omega arith) (omega arith) in
    let f : a + j + suc (ones_below k (get_or bm (a / 8) 0 / 2 ^ suc j)) ≡ a + suc j + ones_below k (get_or bm (a / 8) 0 / 2 ^ suc j) = omega arith in
    rw (t, halved (get_or bm (a / 8) 0) j, f) i)
    (λ t. rw (t, add-zero (a + j)) (b ∙ t))

byte_past : (bm : List ℕ) (a m z : ℕ) → a % 8 ≡ 0 → z ≡ first_zero (get_or bm (a / 8) 0) → first_free bm m a ≡ first_free bm (m - z) (a + z)
unfolding first_zero
byte_past bm a m z e p =
    let i = past_ones bm a 8 0 m e (omega arith) in
    let o : get_or bm (a / 8) 0 / 2 ^ 0 ≡ get_or bm (a / 8) 0 = omega arith in
    let s : a + 0 ≡ a = omega arith in
    rw p (rw (o, s) at i)

byte_free : (bm : List ℕ) (a z : ℕ) → a % 8 ≡ 0 → z ≡ first_zero (get_or bm (a / 8) 0) → z < 8 → is_used bm (a + z) ≡ false
unfolding first_zero
byte_free bm a z e p h =
    let o : get_or bm (a / 8) 0 / 2 ^ 0 ≡ get_or bm (a / 8) 0 = omega arith in
    let s : a + 0 ≡ a = omega arith in
    let l : ones_below 8 (get_or bm (a / 8) 0 / 2 ^ 0) < 8 = rw o (omega arith) in
    let i = free_after bm a 8 0 e (omega arith) l in
    rw p (rw (o, s) at i)

free_first : (bm : List ℕ) (m a : ℕ) → 0 < m → is_used bm a ≡ false → first_free bm m a ≡ a ∷ []
unfolding first_free
free_first bm zero a h u = absurd (omega arith)
free_first bm (suc m) a h u = rw u

first_nothing : (bm : List ℕ) (m a : ℕ) → m ≡ 0 → first_free bm m a ≡ []
unfolding first_free
first_nothing bm m a e = rw e

-- ---- first_free: i bits are passed

pub first_start : (bm : List ℕ) (n a : ℕ) → first_free bm (n - 0) (a + 0) ≡ first_free bm n a
first_start bm n a = let p : n - 0 ≡ n = omega arith in rw (p, add-zero a)

first_found : (bm : List ℕ) (n a i z : ℕ) → a % 8 ≡ 0 → i % 8 ≡ 0 → z ≡ first_zero (get_or bm ((a + i) / 8) 0) → z < 8 → i + z < n
    → first_free bm (n - i) (a + i) ≡ first_free bm n a → (a + i + z) ∷ [] ≡ first_free bm n a
first_found bm n a i z e f p h k v =
    sym (free_first bm (n - i - z) (a + i + z) (omega arith) (byte_free bm (a + i) z (omega arith) p h))
    ∙ sym (byte_past bm (a + i) (n - i) z (omega arith) p) ∙ v

first_past : (bm : List ℕ) (n a i z : ℕ) → a % 8 ≡ 0 → i % 8 ≡ 0 → z ≡ first_zero (get_or bm ((a + i) / 8) 0) → z < 8 → n ≤ i + z
    → first_free bm (n - i) (a + i) ≡ first_free bm n a → [] ≡ first_free bm n a
first_past bm n a i z e f p h k v =
    sym (first_nothing bm (n - i - z) (a + i + z) (omega arith)) ∙ sym (byte_past bm (a + i) (n - i) z (omega arith) p) ∙ v

-- the first 0 bit of a byte is the answer where it is one of the n
pub first_one : (bm : List ℕ) (n a i z : ℕ) (r : Option ℕ) → a % 8 ≡ 0 → i % 8 ≡ 0 → z ≡ first_zero (get_or bm ((a + i) / 8) 0) → z < 8
    → r ≡ then_some (ltb (i + z) n) (a + i + z) → first_free bm (n - i) (a + i) ≡ first_free bm n a → option_to_list r ≡ first_free bm n a
first_one bm n a i z r e f p h q v =
    by_test (ltb (i + z) n)
    (λ t. ap option_to_list (rw t at q) ∙ first_found bm n a i z e f p h (ltb-true (i + z) n t) v)
    (λ t. ap option_to_list (rw t at q) ∙ first_past bm n a i z e f p h (ltb-false (i + z) n t) v)

pub first_next : (bm : List ℕ) (n a i z : ℕ) → a % 8 ≡ 0 → i % 8 ≡ 0 → z ≡ first_zero (get_or bm ((a + i) / 8) 0) → 8 ≤ z
    → first_free bm (n - i) (a + i) ≡ first_free bm n a → first_free bm (n - (i + 8)) (a + (i + 8)) ≡ first_free bm n a
first_next bm n a i z e f p h v =
    let m = zero_most (get_or bm ((a + i) / 8) 0) in
    let q : n - i - z ≡ n - (i + 8) = omega arith in
    let r : a + i + z ≡ a + (i + 8) = omega arith in
    let w : first_free bm (n - i) (a + i) ≡ first_free bm (n - i - z) (a + i + z) = byte_past bm (a + i) (n - i) z (omega arith) p in
    sym (rw (q, r) at w) ∙ v

pub first_end : (bm : List ℕ) (n a i : ℕ) → n ≤ i → first_free bm (n - i) (a + i) ≡ first_free bm n a → [] ≡ first_free bm n a
first_end bm n a i h v = sym (first_nothing bm (n - i) (a + i) (omega arith)) ∙ v

-- the last byte
pub first_last : (bm : List ℕ) (n a i z : ℕ) → a % 8 ≡ 0 → i % 8 ≡ 0 → z ≡ first_zero (get_or bm ((a + i) / 8) 0) → 8 ≤ z → n - i ≤ 8
    → first_free bm (n - i) (a + i) ≡ first_free bm n a → [] ≡ first_free bm n a
first_last bm n a i z e f p h k v = first_end bm n a (i + 8) (omega arith) (first_next bm n a i z e f p h v)

-- ---- zeros counted in one byte

ones_zeros : (m x : ℕ) → ones (x % 2 ^ m) + zeros_below m x ≡ m
unfolding zeros_below ones
ones_zeros zero x = let e : x % 2 ^ 0 ≡ 0 = omega arith in rw e
ones_zeros (suc m) x =
    let p : x % 2 ^ (m + 1) ≡ x / 2 ^ 1 % 2 ^ m * 2 ^ 1 + x % 2 ^ 1 = mod-pow-add x m 1 in
    let p' : x % 2 ^ suc m ≡ x / 2 % 2 ^ m * 2 + x % 2 = rw add-one at p in
    let q : x % 2 ^ suc m % 2 ≡ x % 2 = omega arith in
    let r : x % 2 ^ suc m / 2 ≡ x / 2 % 2 ^ m = omega arith in
    let s : ones (x % 2 ^ suc m) ≡ x % 2 + ones (x / 2 % 2 ^ m) = ones_step (x % 2 ^ suc m) ∙ ap₂ (λ (y z : ℕ). y + ones z) q r in
    let i : ones (x / 2 % 2 ^ m) + zeros_below m (x / 2) ≡ m = ones_zeros m (x / 2) in
    by_test (eqb (x % 2) 1)
    (λ t. let b : x % 2 ≡ 1 = eqb-true (x % 2) 1 t in rw t (omega arith))
    (λ t. let b : (x % 2 ≡ 1 → ⊥) = eqb-false (x % 2) 1 t in rw t (omega arith))

mask_is : (m : ℕ) → m ≤ 8 → (1 * 2 ^ m) % 2 ^ 32 ≡ 2 ^ m
mask_is m h = shl_exact 1 m 32 (omega arith) (omega arith) ∙ omega arith

pub mask_some : (m : ℕ) → m ≤ 8 → 1 ≤ (1 * 2 ^ m) % 2 ^ 32
mask_some m h = let p = pow_pos m in let q = mask_is m h in omega arith

masked_is : (m x : ℕ) → m ≤ 8 → ones (bit_and x ((1 * 2 ^ m) % 2 ^ 32 - 1)) + zeros_below m x ≡ m
masked_is m x h = rw (mask_is m h, and_mask x m) (ones_zeros m x)

pub masked_most : (m x : ℕ) → m ≤ 8 → ones (bit_and x ((1 * 2 ^ m) % 2 ^ 32 - 1)) ≤ m
masked_most m x h = let s = masked_is m x h in omega arith

pub zeros_left : (m x : ℕ) → m ≤ 8 → m - ones (bit_and x ((1 * 2 ^ m) % 2 ^ 32 - 1)) ≡ zeros_below m x
zeros_left m x h = let s = masked_is m x h in omega arith

-- the library's `min` is the lesser of two
lesser_is : (a b : ℕ) → min a b ≡ lesser a b
unfolding lesser
lesser_is a b = by_test (leb a b) (λ t. let h : a ≤ b = leb-true a b t in rw t (omega arith))
    (λ t. let h : b < a = leb-false a b t in rw t (omega arith))

-- ---- zeros

zeros_split : (bm : List ℕ) (k m a : ℕ) → zeros bm (k + m) a ≡ zeros bm k a + zeros bm m (a + k)
unfolding zeros
zeros_split bm zero m a = rw (zero-add m, add-zero a, zero-add (zeros bm m a))
zeros_split bm (suc k) m a =
    let i : zeros bm (k + m) (suc a) ≡ zeros bm k (suc a) + zeros bm m (suc a + k) = zeros_split bm k m (suc a) in
    let s : suc k + m ≡ suc (k + m) = omega arith in
    let f : suc a + k ≡ a + suc k = omega arith in
    let i' : zeros bm (k + m) (suc a) ≡ zeros bm k (suc a) + zeros bm m (a + suc k) = rw f at i in
    rw s (omega arith)

zeros_byte : (bm : List ℕ) (a k j : ℕ) → a % 8 ≡ 0 → k + j ≤ 8 → zeros bm k (a + j) ≡ zeros_below k (get_or bm (a / 8) 0 / 2 ^ j)
unfolding zeros zeros_below
zeros_byte bm a zero j e h = refl
zeros_byte bm a (suc k) j e h =
    let b : is_used bm (a + j) ≡ eqb (get_or bm (a / 8) 0 / 2 ^ j % 2) 1 = bit_at bm a j e (omega arith) in
    let i : zeros bm k (a + suc j) ≡ zeros_below k (get_or bm (a / 8) 0 / 2 ^ suc j) = zeros_byte bm a k (suc j) e (omega arith) in
    let s : a + suc j ≡ suc (a + j) = omega arith in
    rw (b, halved (get_or bm (a / 8) 0) j, ← i, s)

zeros_first : (bm : List ℕ) (a k : ℕ) → a % 8 ≡ 0 → k ≤ 8 → zeros bm k a ≡ zeros_below k (get_or bm (a / 8) 0)
zeros_first bm a k e h =
    let o : get_or bm (a / 8) 0 / 2 ^ 0 ≡ get_or bm (a / 8) 0 = omega arith in
    let s : a + 0 ≡ a = omega arith in
    let i : zeros bm k (a + 0) ≡ zeros_below k (get_or bm (a / 8) 0 / 2 ^ 0) = zeros_byte bm a k 0 e (omega arith) in
    rw (o, s) at i

pub zeros_most : (bm : List ℕ) (n a : ℕ) → zeros bm n a ≤ n
unfolding zeros
zeros_most bm zero a = omega arith
zeros_most bm (suc n) a = let i = zeros_most bm n (suc a) in by_test (is_used bm a) (λ t. rw t (omega arith)) (λ t. rw t (omega arith))

none_zeros : (bm : List ℕ) (m a : ℕ) → m ≡ 0 → zeros bm m a ≡ 0
unfolding zeros
none_zeros bm m a e = rw e

pub zeros_next : (bm : List ℕ) (n a i m r sum : ℕ) → a % 8 ≡ 0 → i % 8 ≡ 0 → m ≡ lesser (n - i) 8 → r ≡ zeros_below m (get_or bm ((a + i) / 8) 0)
    → sum + zeros bm (n - i) (a + i) ≡ zeros bm n a → sum + r + zeros bm (n - (i + 8)) (a + (i + 8)) ≡ zeros bm n a
unfolding lesser
zeros_next bm n a i m r sum e f p q v =
    by_test (leb (n - i) 8)
    (λ t.
    let h : n - i ≤ 8 = leb-true (n - i) 8 t in
    let u : m ≡ n - i = rw t at p in
    let w : zeros bm m (a + i) ≡ zeros_below m (get_or bm ((a + i) / 8) 0) = zeros_first bm (a + i) m (omega arith) (omega arith) in
    let w' : zeros bm (n - i) (a + i) ≡ r = ap (λ (y : ℕ). zeros bm y (a + i)) (sym u) ∙ w ∙ sym q in
    let z : zeros bm (n - (i + 8)) (a + (i + 8)) ≡ 0 = none_zeros bm (n - (i + 8)) (a + (i + 8)) (omega arith) in
    omega arith)
    (λ t.
    let h : 8 < n - i = leb-false (n - i) 8 t in
    let u : m ≡ 8 = rw t at p in
    let w : zeros bm m (a + i) ≡ zeros_below m (get_or bm ((a + i) / 8) 0) = zeros_first bm (a + i) m (omega arith) (omega arith) in
    let s : zeros bm (8 + (n - (i + 8))) (a + i) ≡ zeros bm 8 (a + i) + zeros bm (n - (i + 8)) (a + i + 8) = zeros_split bm 8 (n - (i + 8)) (a + i) in
    let d : 8 + (n - (i + 8)) ≡ n - i = omega arith in
    let g : a + i + 8 ≡ a + (i + 8) = omega arith in
    let s' : zeros bm (n - i) (a + i) ≡ zeros bm 8 (a + i) + zeros bm (n - (i + 8)) (a + (i + 8)) = rw (d, g) at s in
    let w' : zeros bm 8 (a + i) ≡ r = ap (λ (y : ℕ). zeros bm y (a + i)) (sym u) ∙ w ∙ sym q in
    omega arith)

module _ (bm : List ℕ) (n a : ℕ) where
  -- what byte k adds
  abbrev pub zeros_of : ℕ → ℕ
  zeros_of k = zeros_below (min (n - 8 * k) 8) (get_or bm (a / 8 + k) 0)

  module _ (e : a % 8 ≡ 0) where
    -- a sum over m bytes from byte k on, the last m
    zeros_rest : (s m k : ℕ) → k + m ≡ div_ceil n 8 → s + zeros bm (n - 8 * k) (a + 8 * k) ≡ zeros bm n a
        → fold (λ (b x : ℕ). b + zeros_of x) s (range_with_len k m) ≡ zeros bm n a
    zeros_rest s zero k q v = let z = none_zeros bm (n - 8 * k) (a + 8 * k) (omega arith) in omega arith
    zeros_rest s (suc m) k q v =
        let b : (a + 8 * k) / 8 ≡ a / 8 + k = omega arith in
        let o : 8 * k + 8 ≡ 8 * (k + 1) = omega arith in
        let i = zeros_next bm n a (8 * k) (min (n - 8 * k) 8) (zeros_of k) s e (omega arith) (lesser_is (n - 8 * k) 8) (rw b) v in
        zeros_rest (s + zeros_of k) m (k + 1) (omega arith) (rw o at i)

    pub zeros_all : sum_by zeros_of (range_with_len 0 (div_ceil n 8)) ≡ zeros bm n a
    zeros_all =
        let p : n - 8 * 0 ≡ n = omega arith in
        let q : a + 8 * 0 ≡ a = omega arith in
        zeros_rest 0 (div_ceil n 8) 0 (omega arith) (rw (p, q) (omega arith))

-- ---- chunks

pub chunk_aligned : (c size : ℕ) → c * (8 * size) % 8 ≡ 0
chunk_aligned c size = ap (λ (y : ℕ). y % 8) (mul_left_comm c 8 size) ∙ mul-mod_right 8 (c * size)

module _ (size : ℕ) (bm cs fs : List ℕ) (h : Held size (space_of bm cs fs)) where
  chunk_room : (c : ℕ) → c < length cs → c * (8 * size) + 8 * size ≤ 8 * length bm
  chunk_room c k =
      let m : length bm ≡ length cs * size = h.mapped in
      let p : suc c * size ≤ length cs * size = mul-le-mul_right size k in
      let q : c * (8 * size) ≡ 8 * (c * size) = mul_left_comm c 8 size in
      omega arith

  pub chunk_mapped : (c : ℕ) → c < length cs → c * (8 * size) + get_or cs c 0 ≤ 8 * length bm
  unfolding chunk_blocks
  chunk_mapped c k = let r = chunk_room c k in let n : get_or cs c 0 ≤ 8 * size = h.counted c in omega arith

  pub chunk_small : (c : ℕ) → c < length cs → c * (8 * size) < 2 ^ 64
  chunk_small c k = let r = chunk_room c k in let n : length bm ≤ 2 ^ 25 = h.few in omega arith

  pub chunk_free : (c : ℕ) → c < length cs → c < length fs
  chunk_free c k = let p : length fs ≡ length cs = h.paired in omega arith

-- ---- free_in

pub free_none : (bm : List ℕ) (n f a : ℕ) → f ≡ 0 → [] ≡ cond (eqb f 0) [] (first_free bm n a)
free_none bm n f a e = rw (eq-eqb f 0 e)

pub free_some : (bm l : List ℕ) (n f c size : ℕ) → (f ≡ 0 → ⊥) → l ≡ first_free bm n (c * (8 * size))
    → l ≡ cond (eqb f 0) [] (first_free bm n (c * chunk_blocks size))
unfolding chunk_blocks
free_some bm l n f c size e p = rw (ne_eqb f 0 e) p

-- ---- choose: c chunks are passed

module _ (size : ℕ) (bm cs fs : List ℕ) where
  pub choose_start : choose_from bm size 0 (drop 0 cs) (drop 0 fs) ≡ choose size (space_of bm cs fs)
  unfolding choose
  choose_start = refl

  pub choose_found : (c b : ℕ) (f : Option ℕ) → Held size (space_of bm cs fs) → c < length cs
      → option_to_list f ≡ cond (eqb (get_or fs c 0) 0) [] (first_free bm (get_or cs c 0) (c * chunk_blocks size)) → f ≡ Some b
      → choose_from bm size c (drop c cs) (drop c fs) ≡ choose size (space_of bm cs fs)
      → ◌≡◌ {A = List Choice} (record { chunk = c; block = b } ∷ []) (choose size (space_of bm cs fs))
  unfolding choose_from
  choose_found c b f h k p q v =
      let g : b ∷ [] ≡ cond (eqb (get_or fs c 0) 0) [] (first_free bm (get_or cs c 0) (c * chunk_blocks size)) = ap option_to_list (sym q) ∙ p in
      rw (drop-cons cs c 0 k, drop-cons fs c 0 (chunk_free size bm cs fs h c k), ← g) at v

  pub choose_next : (c : ℕ) (f : Option ℕ) → Held size (space_of bm cs fs) → c < length cs
      → option_to_list f ≡ cond (eqb (get_or fs c 0) 0) [] (first_free bm (get_or cs c 0) (c * chunk_blocks size)) → f ≡ None
      → choose_from bm size c (drop c cs) (drop c fs) ≡ choose size (space_of bm cs fs)
      → choose_from bm size (c + 1) (drop (c + 1) cs) (drop (c + 1) fs) ≡ choose size (space_of bm cs fs)
  unfolding choose_from
  choose_next c f h k p q v =
      let g : [] ≡ cond (eqb (get_or fs c 0) 0) [] (first_free bm (get_or cs c 0) (c * chunk_blocks size)) = ap option_to_list (sym q) ∙ p in
      rw (add-one c) (rw (drop-cons cs c 0 k, drop-cons fs c 0 (chunk_free size bm cs fs h c k), ← g) at v)

  pub choose_end : (c : ℕ) → length cs ≤ c → choose_from bm size c (drop c cs) (drop c fs) ≡ choose size (space_of bm cs fs)
      → [] ≡ choose size (space_of bm cs fs)
  unfolding choose_from
  choose_end c k v = rw (drop_of_length-le cs k) at v

-- ---- alloc

module _ (size : ℕ) (bm cs fs : List ℕ) (c b : ℕ) (x : Option code.Choice) (h : Held size (space_of bm cs fs))
    (e : choice_means x ≡ choose size (space_of bm cs fs)) (i : x ≡ Some (record { chunk = c; block = b })) where
  choice_is : choose size (space_of bm cs fs) ≡ record { chunk = c; block = b } ∷ []
  choice_is = sym e ∙ ap choice_means i

  of_choice : Chosen bm size 0 cs fs (record { chunk = c; block = b })
  of_choice = chosen size (space_of bm cs fs) (record { chunk = c; block = b }) [] choice_is

  pub block_mapped : b / 8 < length bm
  unfolding chunk_blocks
  block_mapped =
      let g = of_choice in
      let k : g.at < length cs = g.counted in
      let m : g.at * (8 * size) + get_or cs g.at 0 ≤ 8 * length bm = chunk_mapped size bm cs fs h g.at k in
      let l : b < (0 + g.at) * (8 * size) + get_or cs g.at 0 = g.block.below in
      omega arith

  pub chunk_in : c < length fs
  chunk_in =
      let g = of_choice in
      let q : c ≡ 0 + g.at = g.chunk in
      let k : g.at < length cs = g.counted in
      let p : length fs ≡ length cs = h.paired in
      omega arith

  pub chunk_some : 1 ≤ get_or fs c 0
  chunk_some =
      let g = of_choice in
      let q : c ≡ 0 + g.at = g.chunk in
      let z : c ≡ g.at = omega arith in
      let n : (get_or fs c 0 ≡ 0 → ⊥) = rw z g.nonzero in
      omega arith

  pub alloc_block : ◌≡◌ {A = List Choice} (record { chunk = c; block = b } ∷ []) (choose size (space_of bm cs fs))
  alloc_block = sym choice_is

  pub alloc_taken : (bm' : List ℕ) → bm' ≡ mark_used bm b → space_of bm' cs (set fs c (get_or fs c 0 - 1)) ≡ allocated size (space_of bm cs fs)
  unfolding allocated taken
  alloc_taken bm' p = rw (choice_is, p)

pub alloc_full : (size : ℕ) (p : Space) (x : Option code.Choice) → choice_means x ≡ choose size p → x ≡ None
    → ◌≡◌ {A = List Choice} [] (choose size p)
alloc_full size p x e i = ap choice_means (sym i) ∙ e

pub alloc_none : (size : ℕ) (p : Space) (x : Option code.Choice) → choice_means x ≡ choose size p → x ≡ None → p ≡ allocated size p
unfolding allocated
alloc_none size p x e i = rw (sym (alloc_full size p x e i))

-- ---- usable: c chunks are passed

pub usable_most : (size : ℕ) (bm cs fs : List ℕ) (c z r : ℕ) → Held size (space_of bm cs fs) → z ≤ get_or cs c 0 → r ≤ z → r ≤ 8 * size
unfolding chunk_blocks
usable_most size bm cs fs c z r h k l = let n : get_or cs c 0 ≤ 8 * size = h.counted c in omega arith

-- the smaller of the 0 bits and the free count
pub usable_least : (size : ℕ) (bm cs fs : List ℕ) (c z r : ℕ) → Held size (space_of bm cs fs) → z ≤ get_or cs c 0 → r ≡ min z (get_or fs c 0)
    → r ≤ 8 * size
usable_least size bm cs fs c z r h k l = usable_most size bm cs fs c z r h k (omega arith)

pub usable_is : (size : ℕ) (bm : List ℕ) (n f c z r : ℕ) → z ≡ zeros bm n (c * (8 * size)) → r ≡ min z f
    → r ≡ lesser f (zeros bm n (c * chunk_blocks size))
unfolding chunk_blocks
usable_is size bm n f c z r p q = let m : min z f ≡ min f z = omega arith in q ∙ m ∙ lesser_is f z ∙ ap (lesser f) p

module _ (size : ℕ) (bm cs fs : List ℕ) where
  -- what chunk c adds
  abbrev pub usable_of : ℕ → ℕ
  usable_of c = lesser (get_or fs c 0) (zeros bm (get_or cs c 0) (c * chunk_blocks size))

  module _ (h : Held size (space_of bm cs fs)) where
    -- a sum over n chunks from chunk c on, the last n
    usable_rest : (a n c : ℕ) → c + n ≡ length cs
        → fold (λ (b x : ℕ). b + usable_of x) a (range_with_len c n) ≡ a + usable_from bm size c (drop c cs) (drop c fs)
    unfolding usable_from
    usable_rest a zero c e = let k : length cs ≤ c = omega arith in rw (drop_of_length-le cs k) (omega arith)
    usable_rest a (suc n) c e =
        let k : c < length cs = omega arith in
        let u : ℕ = usable_of c in
        let rest : ℕ → ℕ = λ j. usable_from bm size j (drop j cs) (drop j fs) in
        let i : fold (λ (b x : ℕ). b + usable_of x) (a + u) (range_with_len (c + 1) n) ≡ a + u + rest (suc c) =
        usable_rest (a + u) n (c + 1) (omega arith) ∙ ap (λ (j : ℕ). a + u + rest j) (add-one c) in
        let o : a + u + rest (suc c) ≡ a + (u + rest (suc c)) = omega arith in
        rw (drop-cons cs c 0 k, drop-cons fs c 0 (chunk_free size bm cs fs h c k)) (i ∙ o)

    pub usable_all : sum_by usable_of (range_with_len 0 (length cs)) ≡ usable size (space_of bm cs fs)
    unfolding usable
    usable_all = usable_rest 0 (length cs) 0 (omega arith) ∙ zero-add (usable_from bm size 0 cs fs)

  usable_most_from : (c : ℕ) (ns gs : List ℕ) → ((i : ℕ) → get_or ns i 0 ≤ 8 * size) → usable_from bm size c ns gs ≤ 8 * size * length ns
  unfolding usable_from
  usable_most_from c [] gs q = omega arith
  usable_most_from c (n ∷ ns) [] q = omega arith
  usable_most_from c (n ∷ ns) (g ∷ gs) q =
      let e : 8 * size * suc (length ns) ≡ 8 * size + 8 * size * length ns = omega arith in
      let z = zeros bm n (c * chunk_blocks size) in
      omega (arith, usable_most_from (suc c) ns gs (λ j. q (suc j)), zeros_most bm n (c * chunk_blocks size), q 0, lesser_is g z)

  pub usable_fits : Held size (space_of bm cs fs) → usable size (space_of bm cs fs) < 2 ^ 64
  unfolding usable chunk_blocks
  usable_fits h =
      let e : 8 * size * length cs ≡ 8 * (length cs * size) = omega arith in
      omega (arith, usable_most_from 0 cs fs h.counted, h.mapped, h.few)

-- ---- chunks_hold

-- the same test of each chunk with its number
pub chunks_all : (size blocks c : ℕ) (ns : List ℕ)
    → list_all (λ (p : ℕ × ℕ). leb p.1 (chunk_blocks size) && leb (p.0 * chunk_blocks size + p.1) blocks) (enumerate_from c ns)
    ≡ chunks_hold size blocks c ns
unfolding chunks_hold
chunks_all size blocks c [] = refl
chunks_all size blocks c (n ∷ ns) =
    by_test (leb n (chunk_blocks size))
    (λ q. rw (q, chunks_all size blocks (c + 1) ns, add-one c))
    (λ q. rw q)

-- the ways out of one chunk's test
module _ (c n size blocks d : ℕ) (e : d ≡ div_ceil n 8) where
  pub count_large : size < d → leb d size ≡ leb n (chunk_blocks size) && leb (c * chunk_blocks size + n) blocks
  unfolding chunk_blocks
  count_large h = rw (lt-leb d size h, lt-leb n (8 * size) (omega arith))

  module _ (h : d ≤ size) where
    within : leb n (8 * size) ≡ true
    within = le-leb n (8 * size) (omega arith)

    pub count_long : blocks < n → leb n blocks ≡ leb n (chunk_blocks size) && leb (c * chunk_blocks size + n) blocks
    unfolding chunk_blocks
    count_long k = rw (within, lt-leb n blocks k, lt-leb (c * (8 * size) + n) blocks (omega arith))

    pub count_none : size ≡ 0 → eqb size 0 ≡ leb n (chunk_blocks size) && leb (c * chunk_blocks size + n) blocks
    unfolding chunk_blocks
    count_none z =
        let o : c * (8 * size) ≡ 8 * (c * size) = mul_left_comm c 8 size in
        let p : c * size ≡ 0 = rw z (omega arith) in
        rw (within, eq-eqb size 0 z, le-leb (c * (8 * size) + n) blocks (omega arith))

    pub count_some : (size ≡ 0 → ⊥) → n ≤ blocks
        → leb c ((blocks - n) / 8 / size) ≡ leb n (chunk_blocks size) && leb (c * chunk_blocks size + n) blocks
    unfolding chunk_blocks
    count_some z k =
        let m : ℕ = (blocks - n) / 8 in
        let o : c * (8 * size) ≡ 8 * (c * size) = mul_left_comm c 8 size in
        let f : m / size * size ≤ m = div-mul-le_self m size in
        let g : m < m / size * size + size = lt-div-mul-add (omega arith) in
        by_test (leb c (m / size))
        (λ q. let i : c * size ≤ m / size * size = mul-le-mul_right size (leb-true c (m / size) q) in
        rw (within, q, le-leb (c * (8 * size) + n) blocks (omega arith)))
        (λ q. let i : (m / size + 1) * size ≤ c * size = mul-le-mul_right size (omega (arith, leb-false c (m / size) q)) in
        let i' : (m / size + 1) * size ≡ m / size * size + size = omega arith in
        rw (within, q, lt-leb (c * (8 * size) + n) blocks (omega arith)))

-- ---- a space that holds

-- the chunks past the first c lie in the image, but for the last
chunks_few : (size blocks c : ℕ) (ns : List ℕ) → c * chunk_blocks size ≤ blocks + chunk_blocks size → chunks_hold size blocks c ns ≡ true
    → (c + length ns) * chunk_blocks size ≤ blocks + chunk_blocks size
unfolding chunks_hold
chunks_few size blocks c [] h t = let z : c + 0 ≡ c = omega arith in rw z h
chunks_few size blocks c (n ∷ ns) h t =
    let (u, v) = and_split (leb n (chunk_blocks size) && leb (c * chunk_blocks size + n) blocks) (chunks_hold size blocks (suc c) ns) t in
    let l : c * chunk_blocks size + n ≤ blocks = leb-true (c * chunk_blocks size + n) blocks
    (and_split (leb n (chunk_blocks size)) (leb (c * chunk_blocks size + n) blocks) u).1 in
    let i = chunks_few size blocks (suc c) ns (omega arith) v in
    let s : suc c + length ns ≡ c + suc (length ns) = omega arith in
    rw s at i

chunks_counted : (size blocks c : ℕ) (ns : List ℕ) (i : ℕ) → chunks_hold size blocks c ns ≡ true → get_or ns i 0 ≤ chunk_blocks size
unfolding chunks_hold
chunks_counted size blocks c [] i t = omega arith
chunks_counted size blocks c (n ∷ ns) zero t =
    leb-true n (chunk_blocks size) (and_split (leb n (chunk_blocks size)) (leb (c * chunk_blocks size + n) blocks)
    (and_split (leb n (chunk_blocks size) && leb (c * chunk_blocks size + n) blocks) (chunks_hold size blocks (suc c) ns) t).0).0
chunks_counted size blocks c (n ∷ ns) (suc i) t =
    chunks_counted size blocks (suc c) ns i (and_split (leb n (chunk_blocks size) && leb (c * chunk_blocks size + n) blocks)
    (chunks_hold size blocks (suc c) ns) t).1

-- so the bitmap is small
chunks_small : (size blocks : ℕ) (cs : List ℕ) → size ≤ 65536 → blocks ≤ 2 ^ 20 → chunks_hold size blocks 0 cs ≡ true → length cs * size ≤ 2 ^ 25
unfolding chunk_blocks
chunks_small size blocks cs h k t =
    let f : (0 + length cs) * (8 * size) ≤ blocks + 8 * size = chunks_few size blocks 0 cs (omega arith) t in
    let z : 0 + length cs ≡ length cs = omega arith in
    let f' : length cs * (8 * size) ≤ blocks + 8 * size = rw z at f in
    let q : length cs * (8 * size) ≡ 8 * (length cs * size) = mul_left_comm (length cs) 8 size in
    omega arith

chunks_fit : (size blocks : ℕ) (cs : List ℕ) → size < 2 ^ 64 → blocks < 2 ^ 64 → chunks_hold size blocks 0 cs ≡ true → length cs * size < 2 ^ 64
unfolding chunk_blocks
chunks_fit size blocks cs h k t =
    let f : (0 + length cs) * (8 * size) ≤ blocks + 8 * size = chunks_few size blocks 0 cs (omega arith) t in
    let z : 0 + length cs ≡ length cs = omega arith in
    let f' : length cs * (8 * size) ≤ blocks + 8 * size = rw z at f in
    let q : length cs * (8 * size) ≡ 8 * (length cs * size) = mul_left_comm (length cs) 8 size in
    by_test (leb (length cs) 1)
    (λ u. let m : length cs * size ≤ 1 * size = mul-le-mul_right size (leb-true (length cs) 1 u) in omega arith)
    (λ u. let m : 2 * size ≤ length cs * size = mul-le-mul_right size (leb-false (length cs) 1 u) in omega arith)

pub bitmap_fits : (size blocks : ℕ) (cs : List ℕ) (t : Bool) → t ≡ chunks_hold size blocks 0 cs → not t ≡ false → size < 2 ^ 64 → blocks < 2 ^ 64
    → length cs * size < 2 ^ 64
bitmap_fits size blocks cs true p q h k = chunks_fit size blocks cs h k (sym p)
bitmap_fits size blocks cs false p q h k = never refl q

pub space_chunks : (size blocks : ℕ) (bm cs fs : List ℕ) (t : Bool) → t ≡ chunks_hold size blocks 0 cs → not t ≡ true
    → false ≡ space_holds size blocks
    (space_of bm cs fs)
unfolding space_holds
space_chunks size blocks bm cs fs true p q = never refl (sym q)
space_chunks size blocks bm cs fs false p q = rw (← p, and-false (eqb (length bm) (length cs * size) && eqb (length fs) (length cs)))

pub space_counts : (size blocks : ℕ) (bm cs fs : List ℕ) → (length fs ≡ length cs → ⊥) → false ≡ space_holds size blocks (space_of bm cs fs)
unfolding space_holds
space_counts size blocks bm cs fs n = rw (ne_eqb (length fs) (length cs) n, and-false (eqb (length bm) (length cs * size)))

pub space_map : (size blocks : ℕ) (bm cs fs : List ℕ) (t : Bool) → t ≡ chunks_hold size blocks 0 cs → not t ≡ false → length fs ≡ length cs
    → eqb (length bm) (length cs * size) ≡ space_holds size blocks (space_of bm cs fs)
unfolding space_holds
space_map size blocks bm cs fs false p q e = never refl q
space_map size blocks bm cs fs true p q e =
    by_test (eqb (length bm) (length cs * size))
    (λ u. rw (u, eq-eqb (length fs) (length cs) e) p)
    (λ u. rw u)

size_most : (size : ℕ) → is_size size ≡ true → size ≤ 65536
unfolding is_size
size_most size t =
    by_test (leb size 65536)
    (λ u. leb-true size 65536 u)
    (λ u.
    let h : 65536 < size = leb-false size 65536 u in
    let n : (k : ℕ) → k ≤ 65536 → eqb size k ≡ false = λ k l. ne_eqb size k (λ e. omega arith) in
    never t (rw (
      n 512 (omega arith),
      n 1024 (omega arith),
      n 2048 (omega arith),
      n 4096 (omega arith),
      n 8192 (omega arith),
      n 16384 (omega arith),
      n 32768 (omega arith),
      n 65536 (omega arith),
    )))

-- what block choice asks holds of a space that holds, in an image of at most 2^20 blocks
pub space_held : (size blocks : ℕ) (p : Space) → is_size size ≡ true → blocks ≤ 2 ^ 20 → space_holds size blocks p ≡ true → Held size p
unfolding space_holds
space_held size blocks p s k t =
    let (q, r) = and_split (eqb (length p.bitmap) (length p.counts * size) && eqb (length p.free) (length p.counts))
    (chunks_hold size blocks 0 p.counts) t in
    let (u, v) = and_split (eqb (length p.bitmap) (length p.counts * size)) (eqb (length p.free) (length p.counts)) q in
    let m : length p.bitmap ≡ length p.counts * size = eqb-true (length p.bitmap) (length p.counts * size) u in
    let f = chunks_small size blocks p.counts (size_most size s) k r in
    record {
      sized = size_most size s;
      mapped = m;
      few = omega arith;
      paired = eqb-true (length p.free) (length p.counts) v;
      counted = λ i. chunks_counted size blocks 0 p.counts i r;
    }

-- and a choice keeps it
pub allocated_held : (size : ℕ) (p : Space) → Held size p → Held size (allocated size p)
unfolding allocated taken
allocated_held size p h = after (choose size p) refl
  where
    after : (l : List Choice) → choose size p ≡ l → Held size (allocated size p)
    after [] e = rw e h
    after (x ∷ xs) e =
        let l : length (mark_used p.bitmap x.block) ≡ length p.bitmap = mark_length_lem p.bitmap x.block in
        let g : length (set p.free x.chunk (get_or p.free x.chunk 0 - 1)) ≡ length p.free = length-set p.free x.chunk
        (get_or p.free x.chunk 0 - 1) in
        rw e (record { sized = h.sized; mapped = l ∙ h.mapped; few = rw l h.few; paired = g ∙ h.paired; counted = h.counted })

pub ruleset counting = (mask_some, masked_most, zeros_left)

pub ruleset finding = (chunk_aligned, chunk_mapped, chunk_small, chunk_free, free_none, free_some)

pub ruleset using_up = (chunk_aligned, chunk_mapped, chunk_small, chunk_free, usable_least, usable_is)

pub ruleset holding = (bitmap_fits, space_chunks, space_counts, space_map)

pub ruleset first = (first_start, first_one, first_next, first_last, first_end)

pub ruleset choosing = (choose_start, choose_found, choose_next, choose_end)

pub ruleset taking = (block_mapped, chunk_in, chunk_some, alloc_block, alloc_taken, alloc_none)

pub ruleset chunking = (count_large, count_long, count_none, count_some)
