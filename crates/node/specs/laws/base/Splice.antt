-- Laws of windows and runs replaced, of any list of numbers: what agrees on its first elements, what stands before and from a run that was replaced.
-- Assumes nothing.
use Rattle.std.specs.Prelude.{◌≡◌, List, ◌++◌, ℕ, ◌+◌, ◌-◌, ◌≤◌, length, take, drop}
use Rattle.std.proofs.Common.{sym, ap, ap₂, ◌∙◌, append_assoc, arith, length-append, drop-drop, take-add, length-take-le, take_at, drop_at, take-take}
use Rattle.seal.specs.Bytes.{window, splice, le, bytes_of, field_at}
use Rattle.seal.specs.laws.WindowLaws.{length_window, drop_take}
use Rattle.node.specs.laws.base.Bytes.{Bytes, bytes_window, bytes_of_le}

-- ---- lists that agree on their first m elements, or from element a on

pub window_take : (i n m : ℕ) (l : List ℕ) → i + n ≤ m → window i n (take m l) ≡ window i n l
unfolding window
window_take i n m l h =
    let p : i ≤ m = omega arith in
    let q : n ≤ m - i = omega arith in
    rw (drop_take, take-take)

pub window_local : (i n m : ℕ) (l l' : List ℕ) → i + n ≤ m → take m l' ≡ take m l → window i n l' ≡ window i n l
window_local i n m l l' h e = sym (window_take i n m l' h) ∙ ap (window i n) e ∙ window_take i n m l h

pub field_local : (n i m : ℕ) (l l' : List ℕ) → i + n ≤ m → take m l' ≡ take m l → field_at n l' i ≡ field_at n l i
unfolding field_at
field_local n i m l l' h e = ap le (window_local i n m l l' h e)

pub drop_local : (r m : ℕ) (l l' : List ℕ) → r ≤ m → take m l' ≡ take m l → take (m - r) (drop r l') ≡ take (m - r) (drop r l)
drop_local r m l l' h e = sym (drop_take r m l' h) ∙ ap (drop r) e ∙ drop_take r m l h

pub window_drop : (a i n : ℕ) (l : List ℕ) → window i n (drop a l) ≡ window (a + i) n l
unfolding window
window_drop a i n l = ap (take n) (drop-drop i a l)

-- ---- a run that was replaced

pub take_splice : (l : List ℕ) (i : ℕ) (vs : List ℕ) → i ≤ length l → take i (splice l i vs) ≡ take i l
unfolding splice
take_splice l i vs h =
    let e : length (take i l) ≡ i = length-take-le i l h in
    rw append_assoc (take_at (take i l) (vs ++ drop (i + length vs) l) i e)

pub drop_splice : (l : List ℕ) (i : ℕ) (vs : List ℕ) → i ≤ length l → drop i (splice l i vs) ≡ vs ++ drop (i + length vs) l
unfolding splice
drop_splice l i vs h =
    let e : length (take i l) ≡ i = length-take-le i l h in
    rw append_assoc (drop_at (take i l) (vs ++ drop (i + length vs) l) i e)

pub take_window : (l : List ℕ) (p g : ℕ) → take (p + g) l ≡ take p l ++ window p g l
unfolding window
take_window l p g = take-add p g l

-- a run that starts earlier, with what stands there
pub splice_widen : (l : List ℕ) (p g : ℕ) (vs : List ℕ) → p + g ≤ length l → splice l (p + g) vs ≡ splice l p (window p g l ++ vs)
unfolding splice
splice_widen l p g vs h =
    let w : List ℕ = window p g l in
    let n : length w ≡ g = length_window p g l h in
    let a : take (p + g) l ≡ take p l ++ w = take_window l p g in
    let b : p + g + length vs ≡ p + length (w ++ vs) = omega (arith, length-append w vs) in
    ap₂ (λ (x : List ℕ) (y : ℕ). x ++ vs ++ drop y l) a b ∙ ap (λ (x : List ℕ). x ++ drop (p + length (w ++ vs)) l) (append_assoc (take p l) w vs)

-- ---- bytes and the number that they spell

pub field_bytes : (n i : ℕ) (l : List ℕ) → i + n ≤ length l → Bytes l → bytes_of n (field_at n l i) ≡ window i n l
unfolding field_at
field_bytes n i l h b =
    let e : length (window i n l) ≡ n = length_window i n l h in
    ap (λ (k : ℕ). bytes_of k (le (window i n l))) (sym e) ∙ bytes_of_le (window i n l) (bytes_window i n l b)
