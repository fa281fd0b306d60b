-- Laws of the code that compares keys: one for each way out and each turn of a loop. Assumes nothing.
use Rattle.std.specs.Prelude.{◌≡◌, refl, List, [], ◌∷◌, Bool, not, ◌&&◌, ◌||◌, ℕ, suc, ◌+◌, ◌-◌, ◌≤◌, ◌<◌, min, length, drop, replicate, get_or, ltb, eqb}
use Rattle.std.proofs.Common.{sym, ap, ◌∙◌, add-one, arith, length-drop, drop-cons, lt-ltb, le-ltb, eq-eqb, ne_eqb}
use Rattle.std.specs.Cmp.Lexicographic.{pointwise}
use Rattle.std.specs.Prelude.{nat_eq}
use Rattle.seal.specs.Bytes.{u64_at, bytes_of, splice}
use Rattle.node.specs.laws.base.Tests.{ltb_same, or-false}
use Rattle.node.specs.Order.{keyed_length, keyed, pair_key, pair_less, byte_less, less, same_key}

-- ---- codes

-- ---- less, by the code and the lengths

pub less_pair : (o : ℕ) (a b : List ℕ) (r : Bool) → o ≡ 0 → length a ≡ 16 → length b ≡ 16 → r ≡ pair_less a b → r ≡ less o a b
unfolding less keyed keyed_length
less_pair o a b r h p q e = rw (eq-eqb o 0 h, eq-eqb (length a) 16 p, eq-eqb (length b) 16 q) e

-- ---- pairs

pub pair_id_lem : (a b : List ℕ) (x y : ℕ) → x ≡ u64_at a 0 → y ≡ u64_at b 0 → (x ≡ y → ⊥) → ltb x y ≡ pair_less a b
unfolding pair_less
pair_id_lem a b x y p q n = rw (← p, ← q, ne_eqb x y n) (sym (or-false (ltb x y)))

pub pair_put : (k k' : List ℕ) (id xid : ℕ) → k ≡ splice (replicate 16 0) 0 (bytes_of 8 id) → k' ≡ splice k 8 (bytes_of 8 xid)
    → k' ≡ pair_key id xid
unfolding splice pair_key bytes_of
pair_put k k' id xid p q = q ∙ ap (λ (x : List ℕ). splice x 8 (bytes_of 8 xid)) p

-- ---- bytes: what is left from index i on decides

byte_cons : (a b : List ℕ) (i : ℕ) → i < length a → i < length b
    → byte_less (drop i a) (drop i b) ≡ ltb (get_or a i 0) (get_or b i 0) || eqb (get_or a i 0) (get_or b i 0)
    && byte_less (drop (i + 1) a) (drop (i + 1) b)
unfolding byte_less
byte_cons a b i h k = rw (drop-cons a i 0, drop-cons b i 0, add-one)

pub byte_differs : (a b : List ℕ) (i n : ℕ) → n ≡ min (length a) (length b) → i < n → byte_less (drop i a) (drop i b) ≡ byte_less a b
    → (get_or a i 0 ≡ get_or b i 0 → ⊥) → ltb (get_or a i 0) (get_or b i 0) ≡ byte_less a b
byte_differs a b i n m h e d =
    let p : i < length a = omega arith in
    let q : i < length b = omega arith in
    rw (← e, byte_cons a b i p q, ne_eqb (get_or a i 0) (get_or b i 0) d) (sym (or-false (ltb (get_or a i 0) (get_or b i 0))))

pub byte_next : (a b : List ℕ) (i n : ℕ) → n ≡ min (length a) (length b) → i < n → byte_less (drop i a) (drop i b) ≡ byte_less a b
    → get_or a i 0 ≡ get_or b i 0 → byte_less (drop (i + 1) a) (drop (i + 1) b) ≡ byte_less a b
byte_next a b i n m h e d =
    let p : i < length a = omega arith in
    let q : i < length b = omega arith in
    let l : get_or b i 0 ≤ get_or a i 0 = omega arith in
    rw (← e, byte_cons a b i p q, le-ltb (get_or a i 0) (get_or b i 0) l, eq-eqb (get_or a i 0) (get_or b i 0) d)

-- one of two lists is through
byte_over : (a b : List ℕ) → min (length a) (length b) ≡ 0 → ltb (length a) (length b) ≡ byte_less a b
unfolding byte_less
byte_over [] [] m = refl
byte_over [] (y ∷ ys) m = lt-ltb 0 (suc (length ys)) (omega arith)
byte_over (x ∷ xs) [] m = le-ltb (suc (length xs)) 0 (omega arith)
byte_over (x ∷ xs) (y ∷ ys) m = absurd (omega arith)

-- as much was taken of the one as of the other, and what is left decides
pub byte_through : (a b x y : List ℕ) → byte_less x y ≡ byte_less a b → length a + length y ≡ length b + length x → min (length x) (length y) ≡ 0
    → ltb (length a) (length b) ≡ byte_less a b
byte_through a b x y e h m =
    ltb_same (length a) (length b) (length x) (length y) (λ t. omega arith) (λ t. omega arith) ∙ byte_over x y m ∙ e

pub byte_end : (a b : List ℕ) (i n : ℕ) → n ≡ min (length a) (length b) → n ≤ i → i ≤ n → byte_less (drop i a) (drop i b) ≡ byte_less a b
    → ltb (length a) (length b) ≡ byte_less a b
byte_end a b i n m h k e =
    let la : length (drop i a) ≡ length a - i = length-drop i a in
    let lb : length (drop i b) ≡ length b - i = length-drop i b in
    byte_through a b (drop i a) (drop i b) e (omega arith) (omega arith)

-- ---- the same bytes

-- slices that are equal, as std says it
same_is : (a b : List ℕ) (r : Bool) → r ≡ pointwise nat_eq a b → r ≡ same_key a b
unfolding same_key
same_is [] [] r e = e
same_is [] (y ∷ ys) r e = e
same_is (x ∷ xs) [] r e = e
same_is (x ∷ xs) (y ∷ ys) r e = e ∙ ap (λ (z : Bool). nat_eq x y && z) (same_is xs ys (pointwise nat_eq xs ys) refl)

-- slices that are not
pub unlike : (a b : List ℕ) (r : Bool) → r ≡ not (pointwise nat_eq a b) → r ≡ not (same_key a b)
unlike a b r e = e ∙ ap not (same_is a b (pointwise nat_eq a b) refl)
