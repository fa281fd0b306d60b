-- Laws of a loop that moves a run within one list. Assumes nothing.
use Rattle.std.specs.Prelude.{◌≡◌, List, [], ◌∷◌, ◌++◌, ℕ, ◌+◌, ◌≤◌, ◌<◌, ◌-◌, length, get_or, set}
use Rattle.std.proofs.Common.{sym, ap, ◌∙◌, add-zero, add_assoc, add_comm, arith}
use Rattle.std.proofs.Math.Nat.{sub-zero}
use Rattle.seal.specs.Bytes.{window, splice, moved}
use Rattle.seal.specs.laws.WindowLaws.{length_window, length_splice, window_add, window_one, splice_two, splice_none, splice_under, set_is_splice, get_d_before, get_d_after}

pub length_moved : (l : List ℕ) (a b n : ℕ) → a + n ≤ length l → b + n ≤ length l → length (moved l a b n) ≡ length l
unfolding moved
length_moved l a b n ha hb = length_splice l b (window a n l) (rw (length_window a n l ha) hb)

pub moved_none : (l : List ℕ) (a b : ℕ) → l ≡ moved l a b 0
unfolding moved window
moved_none l a b = sym (splice_none l b)

-- a turn that copies the element after those that are copied
pub moved_next : (l : List ℕ) (a b k : ℕ) → b ≤ a → a + k < length l
    → set (moved l a b k) (b + k) (get_or (moved l a b k) (a + k) 0) ≡ moved l a b (k + 1)
unfolding moved
moved_next l a b k le h =
    let ha : a + k ≤ length l = omega arith in
    let e : length (window a k l) ≡ k = length_window a k l ha in
    let hb : b + k ≤ length l = omega arith in
    let hb' : b ≤ length l = omega arith in
    let s : length (splice l b (window a k l)) ≡ length l = length_splice l b (window a k l) (rw e hb) in
    let in_it : b + k < length (splice l b (window a k l)) = omega arith in
    let past : b + length (window a k l) ≤ a + k = omega arith in
    let room : b + length (window a k l) + 1 ≤ length l = omega arith in
    ap (set (splice l b (window a k l)) (b + k)) (get_d_after l b (window a k l) (a + k) past hb')
    ∙ set_is_splice (splice l b (window a k l)) (b + k) (get_or l (a + k) 0) in_it
    ∙ ap (λ (q : ℕ). splice (splice l b (window a k l)) (b + q) (get_or l (a + k) 0 ∷ [])) (sym e)
    ∙ splice_two l b (window a k l) (get_or l (a + k) 0 ∷ []) room
    ∙ ap (splice l b) (sym (window_add a k 1 l ∙ ap (λ (q : List ℕ). window a k l ++ q) (window_one (a + k) l h)))

-- a turn that copies the element before those that are copied: of n, all from k + 1 on are copied
pub moved_prev : (l : List ℕ) (a b k n : ℕ) → a ≤ b → b + (k + 1 + n) ≤ length l
    → set (moved l (a + (k + 1)) (b + (k + 1)) n) (b + k) (get_or (moved l (a + (k + 1)) (b + (k + 1)) n) (a + k) 0) ≡ moved l (a + k) (b + k) (n + 1)
unfolding moved
moved_prev l a b k n le h =
    let w : List ℕ = window (a + (k + 1)) n l in
    let e : length w ≡ n = length_window (a + (k + 1)) n l (omega arith) in
    let v : ℕ = get_or l (a + k) 0 in
    let hb : b + (k + 1) ≤ length l = omega arith in
    let s : length (splice l (b + (k + 1)) w) ≡ length l = length_splice l (b + (k + 1)) w (omega arith) in
    let in_it : b + k < length (splice l (b + (k + 1)) w) = omega arith in
    let before : a + k < b + (k + 1) = omega arith in
    let room : b + k + 1 + length w ≤ length l = omega arith in
    let here : a + k < length l = omega arith in
    ap (set (splice l (b + (k + 1)) w) (b + k)) (get_d_before l (b + (k + 1)) w (a + k) before hb)
    ∙ set_is_splice (splice l (b + (k + 1)) w) (b + k) v in_it
    ∙ ap (λ (q : ℕ). splice (splice l q w) (b + k) (v ∷ [])) (sym (add_assoc b k 1))
    ∙ splice_under l (b + k) (v ∷ []) w room
    ∙ ap (splice l (b + k)) (ap (λ (q : ℕ). (v ∷ []) ++ window q n l) (sym (add_assoc a k 1)) ∙ ap (λ (q : List ℕ). q ++ window (a + k + 1) n l)
    (sym (window_one (a + k) l here)) ∙ sym (window_add (a + k) 1 n l) ∙ ap (λ (q : ℕ). window (a + k) q l) (add_comm 1 n))

-- the same of a list that is so far as it should be
pub turn_down : (l s : List ℕ) (a b k : ℕ) → s ≡ moved l a b k → b ≤ a → a + k < length l
    → set s (b + k) (get_or s (a + k) 0) ≡ moved l a b (k + 1)
turn_down l s a b k e le h = rw e (moved_next l a b k le h)

pub turn_up : (l s : List ℕ) (a b k n : ℕ) → 0 < k → k ≤ n → s ≡ moved l (a + k) (b + k) (n - k) → a ≤ b → b + n ≤ length l
    → set s (b + (k - 1)) (get_or s (a + (k - 1)) 0) ≡ moved l (a + (k - 1)) (b + (k - 1)) (n - (k - 1))
turn_up l s a b k n z kn e le h =
    let j : ℕ = k - 1 in
    let p : k ≡ j + 1 = omega arith in
    let q : n - k + 1 ≡ n - j = omega arith in
    let e' : s ≡ moved l (a + (j + 1)) (b + (j + 1)) (n - k) = e ∙ ap (λ (i : ℕ). moved l (a + i) (b + i) (n - k)) p in
    let room : b + (j + 1 + (n - k)) ≤ length l = omega arith in
    rw e' (moved_prev l a b j (n - k) le room ∙ ap (moved l (a + j) (b + j)) q)

pub moved_done : (l s : List ℕ) (a b k n : ℕ) → k ≤ 0 → s ≡ moved l (a + k) (b + k) (n - k) → s ≡ moved l a b n
moved_done l s a b k n z e =
    let k0 : k ≡ 0 = omega arith in
    e ∙ rw (k0, add-zero a, add-zero b, sub-zero)

-- ---- for `search`: each premise is a field of what a need is handed

pub down_next : (l s : List ℕ) (a b n k : ℕ) → s ≡ moved l a b k → b ≤ a → a + n ≤ length l → k < n → set s (b + k) (get_or s (a + k) 0) ≡ moved l a b
    (k + 1)
down_next l s a b n k e h r t = turn_down l s a b k e h (omega arith)

pub down_stop : (l s : List ℕ) (a b n k : ℕ) → s ≡ moved l a b k → k ≤ n → n ≤ k → s ≡ moved l a b n
down_stop l s a b n k e h t = let q : k ≡ n = omega arith in e ∙ ap (moved l a b) q
