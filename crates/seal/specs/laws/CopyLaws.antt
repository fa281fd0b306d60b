-- Laws of a copy that goes byte by byte, or by words of 8 bytes, of which the last may overlap the one before. Assumes nothing.
use Rattle.std.specs.Prelude.{◌≡◌, refl, List, [], ◌∷◌, ◌++◌, ℕ, suc, ◌+◌, ◌-◌, ◌*◌, ◌/◌, ◌%◌, ◌≤◌, ◌<◌, length, take, drop, get_or, set}
use Rattle.std.proofs.Common.{sym, ap, ap₂, ◌∙◌, append_assoc, arith, Fits, length-append, length-drop, take-add, drop-drop, take_at, length-take-le, take_all, take-suc, add-one}
use Rattle.std.specs.Int.{w8}
use Rattle.std.proofs.Math.Seq.{drop-append-add}
use Rattle.seal.specs.Bytes.{window, splice, le, bytes_of, field_at, u64_at, AreBytes}
use Rattle.seal.specs.laws.WindowLaws.{length_window, length_splice, splice_two, splice_run, splice_none, set_is_splice}
use Rattle.seal.specs.laws.FieldLaws.{bytes_take, bytes_drop}

bytes_back : (l : List ℕ) → AreBytes l → bytes_of (length l) (le l) ≡ l
unfolding le bytes_of
bytes_back [] h = refl
bytes_back (x ∷ xs) h =
    let p : x < 256 = h 0 in
    let m : (x + 256 * le xs) % 256 ≡ x = omega arith in
    let d : (x + 256 * le xs) / 256 ≡ le xs = omega arith in
    rw (m, d, bytes_back xs (λ (j : ℕ). h (suc j)))

window_back : (w : List ℕ) (n : ℕ) → length w ≡ n → AreBytes w → bytes_of n (le w) ≡ w
window_back w n e h = rw (← e) (bytes_back w h)

-- a word that was read, stored
pub word_moved : (l d k : List ℕ) (i p x : ℕ) → ((j : ℕ) → Fits w8 (get_or l j 0)) → i + 8 ≤ length l → x ≡ u64_at l i → k ≡ splice d p (bytes_of 8 x)
    → k ≡ splice d p (window i 8 l)
unfolding field_at window
word_moved l d k i p x h r ex ek =
    let w : AreBytes (window i 8 l) = bytes_take 8 (drop i l) (bytes_drop i l (λ (j : ℕ). (h j).fits)) in
    ek ∙ ap (λ (y : ℕ). splice d p (bytes_of 8 y)) ex ∙ ap (splice d p) (window_back (window i 8 l) 8 (length_window i 8 l r) w)

-- nothing is stored yet
pub copy_start : (l src : List ℕ) (at : ℕ) → l ≡ splice l at (take 0 src)
copy_start l src at = sym (splice_none l at)

-- a byte more
pub copy_next : (l s src : List ℕ) (at k : ℕ) → s ≡ splice l at (take k src) → at + length src ≤ length l → k < length src
    → set s (at + k) (get_or src k 0) ≡ splice l at (take (k + 1) src)
copy_next l s src at k e room h =
    let le1 : k ≤ length src = omega arith in
    let lt : length (take k src) ≡ k = length-take-le k src le1 in
    let ls : length s ≡ length l = ap length e ∙ length_splice l at (take k src) (omega arith) in
    let in_it : at + k < length s = omega arith in
    let fit : at + length (take k src) + 1 ≤ length l = omega arith in
    set_is_splice s (at + k) (get_or src k 0) in_it
    ∙ ap (λ (q : List ℕ). splice q (at + k) (get_or src k 0 ∷ [])) e
    ∙ ap (λ (q : ℕ). splice (splice l at (take k src)) (at + q) (get_or src k 0 ∷ [])) (sym lt)
    ∙ splice_two l at (take k src) (get_or src k 0 ∷ []) fit
    ∙ ap (splice l at) (sym (rw add-one (take-suc src k 0 h)))

-- all of them
pub copy_done : (l s src : List ℕ) (at k : ℕ) → s ≡ splice l at (take k src) → length src ≤ k → s ≡ splice l at src
copy_done l s src at k e h = e ∙ ap (splice l at) (take_all k src h)

pub word_next : (l s t src : List ℕ) (at k last : ℕ) → s ≡ splice l at (take k src) → at + length src ≤ length l → last + 8 ≡ length src → k < last
    → t ≡ splice s (at + k) (window k 8 src) → t ≡ splice l at (take (k + 8) src)
unfolding window
word_next l s t src at k last e room el g q =
    let h : k + 8 ≤ length src = omega arith in
    let lt : length (take k src) ≡ k = length-take-le k src (omega arith) in
    let lw : length (window k 8 src) ≡ 8 = length_window k 8 src h in
    splice_run l s t at (take k src) (at + k) (window k 8 src) (omega arith) (omega arith) e q ∙ ap (splice l at) (sym (take-add k 8 src))

-- a run stored where a shorter one was
splice_over : (m : List ℕ) (p : ℕ) (x y : List ℕ) → length x ≤ length y → p + length y ≤ length m → splice (splice m p x) p y ≡ splice m p y
unfolding splice
splice_over m p x y h room =
    let a : List ℕ = take p m ++ x in
    let r : List ℕ = drop (p + length x) m in
    let lt : length (take p m) ≡ p = length-take-le p m (omega arith) in
    let la : length a + (length y - length x) ≡ p + length y = omega (arith, length-append (take p m) x) in
    let lm : p + length x + (length y - length x) ≡ p + length y = omega arith in
    ap₂ (λ (u v : List ℕ). u ++ y ++ v)
    (ap (take p) (append_assoc (take p m) x r) ∙ take_at (take p m) (x ++ r) p lt)
    (ap (λ (n : ℕ). drop n (a ++ r)) (sym la) ∙ drop-append-add a r (length y - length x) ∙ drop-drop (length y - length x) (p + length x) m
    ∙ ap (λ (n : ℕ). drop n m) lm)

pub word_last : (l s t src : List ℕ) (at k last : ℕ) → s ≡ splice l at (take k src) → at + length src ≤ length l → last + 8 ≡ length src → last ≤ k
    → k ≤ last + 8 → t ≡ splice s (at + last) (window last 8 src) → t ≡ splice l at src
unfolding window
word_last l s t src at k last e room el h g q =
    let x : List ℕ = take (k - last) (drop last src) in
    let w : List ℕ = window last 8 src in
    let m : List ℕ = splice l at (take last src) in
    let ek : last + (k - last) ≡ k = omega arith in
    let la : length (take last src) ≡ last = length-take-le last src (omega arith) in
    let lx : length x ≡ k - last = length-take-le (k - last) (drop last src) (rw length-drop (omega arith)) in
    let lw : length w ≡ 8 = length_window last 8 src (omega arith) in
    let lm : length m ≡ length l = length_splice l at (take last src) (omega arith) in
    let parts : take k src ≡ take last src ++ x = ap (λ (n : ℕ). take n src) (sym ek) ∙ take-add last (k - last) src in
    let two : s ≡ splice m (at + last) x =
    e ∙ ap (splice l at) parts ∙ sym (splice_two l at (take last src) x (omega arith)) ∙ ap (λ (n : ℕ). splice m (at + n) x) la in
    let over : t ≡ splice m (at + last) w = q ∙ ap (λ (v : List ℕ). splice v (at + last) w) two ∙ splice_over m (at + last) x w (omega arith)
    (omega arith) in
    splice_run l m t at (take last src) (at + last) w (omega arith) (omega arith) refl over
    ∙ ap (splice l at) (sym (take-add last 8 src) ∙ take_all (last + 8) src (omega arith))
