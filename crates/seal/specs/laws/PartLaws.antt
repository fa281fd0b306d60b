-- Laws of a part of a list that is lent and given back. Assumes nothing.
use Rattle.std.specs.Prelude.{◌≡◌, List, ◌++◌, ℕ, ◌+◌, ◌≤◌, ◌-◌, length, take, drop, replicate}
use Rattle.std.proofs.Common.{sym, ap, ap₂, ◌∙◌, append_assoc, zero-add, arith, length-drop, length-take-le, take-append-drop, drop-drop}
use Rattle.std.proofs.lemmas.List.{length-replicate}
use Rattle.seal.specs.Bytes.{splice}
use Rattle.seal.specs.laws.WindowLaws.{drop_take}

-- the callee replaced the part's first elements
pub part_back : (l : List ℕ) (a k : ℕ) (d vs : List ℕ) → a + k ≤ length l → length vs ≤ k → d ≡ splice (take k (drop a l)) 0 vs
    → take a l ++ (d ++ drop k (drop a l)) ≡ splice l a vs
unfolding splice
part_back l a k d vs h v e =
    let m : ℕ = length vs in
    let r : List ℕ = drop a l in
    let s : m + (k - m) ≡ k = omega arith in
    let p : d ≡ vs ++ take (k - m) (drop m r) = e ∙ ap (λ (j : ℕ). vs ++ drop j (take k r)) (zero-add m) ∙ ap (λ (x : List ℕ). vs ++ x)
    (drop_take m k r v) in
    let q : drop k r ≡ drop (k - m) (drop m r) = sym (drop-drop (k - m) m r ∙ ap (λ (j : ℕ). drop j r) s) in
    ap₂ (λ (x y : List ℕ). take a l ++ (x ++ y)) p q
    ∙ ap (λ (x : List ℕ). take a l ++ x) (append_assoc vs (take (k - m) (drop m r)) (drop (k - m) (drop m r)))
    ∙ ap (λ (x : List ℕ). take a l ++ (vs ++ x)) (take-append-drop (k - m) (drop m r) ∙ drop-drop m a l)
    ∙ sym (append_assoc (take a l) vs (drop (a + m) l))

-- a part that is replaced whole
pub part_whole : (l : List ℕ) (a k : ℕ) (d : List ℕ) → length d ≡ k → take a l ++ (d ++ drop k (drop a l)) ≡ splice l a d
unfolding splice
part_whole l a k d e = rw (drop-drop, ← e, append_assoc)

-- a part that a list is copied to
pub part_stored : (l : List ℕ) (a k : ℕ) (d vs : List ℕ) → k ≡ length vs → d ≡ vs → take a l ++ (d ++ drop k (drop a l)) ≡ splice l a vs
part_stored l a k d vs e f = rw f (part_whole l a k vs (sym e))

-- a part that is filled with zeros
pub part_cleared : (l : List ℕ) (a n : ℕ) (d : List ℕ) → a + n ≤ length l → d ≡ replicate (length (take (a + n - a) (drop a l))) 0
    → take a l ++ (d ++ drop (a + n - a) (drop a l)) ≡ splice l a (replicate n 0)
part_cleared l a n d h e =
    let k : a + n - a ≡ n = omega arith in
    let m : length (take n (drop a l)) ≡ n = length-take-le n (drop a l) (rw length-drop (omega arith)) in
    let f : d ≡ replicate n 0 = rw (k, m) at e in
    rw k (part_stored l a n d (replicate n 0) (sym (length-replicate n 0)) f)
