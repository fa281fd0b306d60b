-- Laws of `window` and `splice`: lengths, what lies where a run was replaced and where it was not. Assumes nothing.
use Rattle.std.specs.Prelude.{◌≡◌, List, [], ◌∷◌, ◌++◌, ℕ, zero, suc, ◌+◌, ◌≤◌, ◌<◌, ◌-◌, length, take, drop, get_or, set}
use Rattle.std.proofs.Common.{sym, ap, ap₂, ◌∙◌, append_assoc, append-nil, add-zero, add_assoc, not-suc-le-zero, le_of_suc-le-suc, add-one, arith, length-append, length-take, length-drop, take-append-drop, take-add, drop-drop, drop-cons, length-take-le, take_at, drop_at, take-take, get_or-take, get_or-drop}
use Rattle.std.proofs.Math.Nat.{sub-zero, suc-sub-suc}
use Rattle.std.proofs.lemmas.List.{take-append-le, drop-append-le, set_split}
use Rattle.std.proofs.Math.Seq.{drop-append-add, take-nil, take-append_seam, append_snoc}
use Rattle.seal.specs.Bytes.{window, splice}

-- ---- lengths

pub length_window : (i n : ℕ) (l : List ℕ) → i + n ≤ length l → length (window i n l) ≡ n
unfolding window
length_window i n l h = length-take-le n (drop i l) (rw length-drop (omega arith))

pub length_splice : (l : List ℕ) (i : ℕ) (vs : List ℕ) → i + length vs ≤ length l → length (splice l i vs) ≡ length l
unfolding splice
length_splice l i vs h = simp (length-append, length-take, length-drop) (omega arith)

pub drop_take : (j i : ℕ) (l : List ℕ) → j ≤ i → drop j (take i l) ≡ take (i - j) (drop j l)
drop_take zero i l h = rw sub-zero
drop_take (suc j) zero l h = absurd (not-suc-le-zero h)
drop_take (suc j) (suc i) [] h = sym (take-nil (suc i - suc j))
drop_take (suc j) (suc i) (x ∷ xs) h = drop_take j i xs (le_of_suc-le-suc h) ∙ sym (rw suc-sub-suc)

-- ---- windows

pub window_add : (i n m : ℕ) (l : List ℕ) → window i (n + m) l ≡ window i n l ++ window (i + n) m l
unfolding window
window_add i n m l = rw (take-add, drop-drop)

pub window_one : (i : ℕ) (l : List ℕ) → i < length l → window i 1 l ≡ get_or l i 0 ∷ []
unfolding window
window_one i l h = rw (drop-cons l i 0)

pub window_window : (a n : ℕ) (l : List ℕ) (i m : ℕ) → i + m ≤ n → window i m (window a n l) ≡ window (a + i) m l
unfolding window
window_window a n l i m h =
    let p : i ≤ n = omega arith in
    let q : m ≤ n - i = omega arith in
    rw (drop_take, take-take, drop-drop)

-- ---- a run replaced

pub splice_two : (l : List ℕ) (i : ℕ) (a b : List ℕ) → i + length a + length b ≤ length l → splice (splice l i a) (i + length a) b ≡ splice l i
    (a ++ b)
unfolding splice
splice_two l i a b h =
    let p : List ℕ = take i l ++ a in
    let r : List ℕ = drop (i + length a) l in
    let e : length p ≡ i + length a = simp (length-append, length-take) (omega arith) in
    ap (λ (q : List ℕ). q ++ b ++ drop (i + length a + length b) (p ++ r)) (take_at p r (i + length a) e)
    ∙ ap (λ (q : List ℕ). p ++ b ++ q) (ap (λ (k : ℕ). drop (k + length b) (p ++ r)) (sym e) ∙ drop-append-add p r (length b)
    ∙ drop-drop (length b) (i + length a) l)
    ∙ simp (append_assoc, length-append, add_assoc)

-- a run, and then the run after it
pub splice_run : (l l₁ l₂ : List ℕ) (i : ℕ) (a : List ℕ) (j : ℕ) (b : List ℕ) → i + length a ≡ j → j + length b ≤ length l → l₁ ≡ splice l i a
    → l₂ ≡ splice l₁ j b → l₂ ≡ splice l i (a ++ b)
splice_run l l₁ l₂ i a j b e h p q = q ∙ ap₂ (λ (k : List ℕ) (n : ℕ). splice k n b) p (sym e) ∙ splice_two l i a b (omega arith)

-- what lies where nothing was replaced
pub window_splice_before : (l : List ℕ) (i : ℕ) (vs : List ℕ) (j n : ℕ) → j + n ≤ i → i ≤ length l → window j n (splice l i vs) ≡ window j n l
unfolding window splice
window_splice_before l i vs j n h k =
    let a : j ≤ length (take i l) = rw length-take (omega arith) in
    let b : n ≤ length (drop j (take i l)) = simp (length-drop, length-take) (omega arith) in
    let d : j ≤ i = omega arith in
    let f : n ≤ i - j = omega arith in
    rw (append_assoc, drop-append-le, take-append-le, drop_take, take-take)

pub window_splice_after : (l : List ℕ) (i : ℕ) (vs : List ℕ) (j n : ℕ) → i + length vs ≤ j → i ≤ length l → window j n (splice l i vs) ≡ window j n l
unfolding window splice
window_splice_after l i vs j n h k =
    let p : List ℕ = take i l ++ vs in
    let r : List ℕ = drop (i + length vs) l in
    let e : length p ≡ i + length vs = simp (length-append, length-take) (omega arith) in
    let d : j ≡ length p + (j - (i + length vs)) = omega arith in
    let f : i + length vs + (j - (i + length vs)) ≡ j = omega arith in
    ap (take n) (ap (λ (q : ℕ). drop q (p ++ r)) d ∙ drop-append-add p r (j - (i + length vs)) ∙ drop-drop (j - (i + length vs)) (i + length vs) l
    ∙ ap (λ (q : ℕ). drop q l) f)

pub window_splice_same : (l : List ℕ) (i : ℕ) (vs : List ℕ) → i ≤ length l → window i (length vs) (splice l i vs) ≡ vs
unfolding window splice
window_splice_same l i vs h =
    let e : length (take i l) ≡ i = length-take-le i l h in
    rw (append_assoc, drop_at (take i l) (vs ++ drop (i + length vs) l) i e, take-append_seam)

pub splice_none : (l : List ℕ) (i : ℕ) → splice l i [] ≡ l
unfolding splice
splice_none l i = rw (add-zero, append-nil, take-append-drop)

pub splice_under : (l : List ℕ) (i : ℕ) (a b : List ℕ) → i + length a + length b ≤ length l → splice (splice l (i + length a) b) i a ≡ splice l i
    (a ++ b)
unfolding splice
splice_under l i a b h =
    let n : ℕ = i + length a in
    let p : List ℕ = take n l in
    let r : List ℕ = drop (n + length b) l in
    let e : length p ≡ n = rw length-take (omega arith) in
    let f : i ≤ length (p ++ b) = simp (length-append, length-take) (omega arith) in
    let g : i ≤ length p = omega arith in
    let g' : i ≤ n = omega arith in
    ap (λ (q : List ℕ). q ++ a ++ drop n (p ++ b ++ r)) (take-append-le i (p ++ b) r f ∙ take-append-le i p b g ∙ take-take i n l g')
    ∙ ap (λ (q : List ℕ). take i l ++ a ++ q) (ap (drop n) (append_assoc p b r) ∙ drop_at p (b ++ r) n e)
    ∙ simp (append_assoc, length-append, add_assoc)

pub get_d_window : (i n : ℕ) (l : List ℕ) (k : ℕ) → k < n → get_or (window i n l) k 0 ≡ get_or l (i + k) 0
unfolding window
get_d_window i n l k h = rw (get_or-take, get_or-drop)

pub get_d_before : (l : List ℕ) (i : ℕ) (vs : List ℕ) (j : ℕ) → j < i → i ≤ length l → get_or (splice l i vs) j 0 ≡ get_or l j 0
get_d_before l i vs j h k =
    let m : j + 1 ≤ i = omega arith in
    let z : 0 < 1 = omega arith in
    ap (λ (q : ℕ). get_or (splice l i vs) q 0) (sym (add-zero j)) ∙ sym (get_d_window j 1 (splice l i vs) 0 z)
    ∙ ap (λ (q : List ℕ). get_or q 0 0) (window_splice_before l i vs j 1 m k) ∙ get_d_window j 1 l 0 z ∙ ap (λ (q : ℕ). get_or l q 0) (add-zero j)

pub get_d_after : (l : List ℕ) (i : ℕ) (vs : List ℕ) (j : ℕ) → i + length vs ≤ j → i ≤ length l → get_or (splice l i vs) j 0 ≡ get_or l j 0
get_d_after l i vs j h k =
    let z : 0 < 1 = omega arith in
    ap (λ (q : ℕ). get_or (splice l i vs) q 0) (sym (add-zero j)) ∙ sym (get_d_window j 1 (splice l i vs) 0 z)
    ∙ ap (λ (q : List ℕ). get_or q 0 0) (window_splice_after l i vs j 1 h k) ∙ get_d_window j 1 l 0 z ∙ ap (λ (q : ℕ). get_or l q 0) (add-zero j)

-- ---- one element stored

pub set_is_splice : (l : List ℕ) (i v : ℕ) → i < length l → set l i v ≡ splice l i (v ∷ [])
unfolding splice
set_is_splice l i v h = set_split l i v h ∙ rw (add-one, ← append_snoc)
