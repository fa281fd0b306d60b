-- Laws of blocks: one bit set and no other, the lowest free block chosen, and usable blocks as the number of choices in a row. Assumes nothing.
use Rattle.std.specs.Prelude.{◌≡◌, refl, List, [], ◌∷◌, Bool, true, false, cond, ◌&&◌, ℕ, zero, suc, ◌+◌, ◌-◌, ◌*◌, ◌/◌, ◌%◌, ◌^◌, ◌≤◌, ◌<◌, length, get_or, set, leb, ltb, eqb}
use Rattle.std.proofs.Common.{sym, ap, ap₂, ◌∙◌, pow-suc, mul-le-mul_right, arith, length-set, get_or-set_same, get_or-set_other, eqb-true, eq-eqb, leb-true, leb-false, ltb-true, ltb-false, le-leb}
use Rattle.std.proofs.Math.Nat.{one-le-pow, add-div_right, add-mul-div_left, div-div-eq-div-mul}
use Rattle.std.proofs.Math.Seq.{set_out}
use Rattle.std.proofs.lemmas.Bool.{eqb-false}
use Rattle.tree.specs.laws.base.Node.{by_test, and_split}
use Rattle.flush.specs.Space.{Space, Choice, chunk_blocks, is_used, mark_used, first_free, zeros, choose_from, choose, taken, lesser, usable_from, usable, chunks_hold, space_holds}

-- ---- one bit of a byte set

-- the power of a later bit is a multiple of an earlier one's
pow_apart : (b r d : ℕ) → r ≡ suc (b + d) → 2 ^ r ≡ 2 ^ b * (2 * 2 ^ d)
pow_apart b zero d e = absurd (omega arith)
pow_apart zero (suc r) d e =
    let q : r ≡ d = omega arith in
    pow-suc 2 r ∙ ap (λ (z : ℕ). 2 ^ z * 2) q ∙ omega arith
pow_apart (suc b) (suc r) d e =
    let i : 2 ^ r ≡ 2 ^ b * (2 * 2 ^ d) = pow_apart b r d (omega arith) in
    let p : 2 ^ suc b ≡ 2 ^ b * 2 = pow-suc 2 b in
    pow-suc 2 r ∙ ap (λ (z : ℕ). z * 2) i ∙ omega arith ∙ ap (λ (z : ℕ). z * (2 * 2 ^ d)) (sym p)

-- the bit that is added
bit_set : (x r : ℕ) → (x / 2 ^ r % 2 ≡ 1 → ⊥) → (x + 2 ^ r) / 2 ^ r % 2 ≡ 1
bit_set x r h =
    let p : 1 ≤ 2 ^ r = one-le-pow r 2 (omega arith) in
    let q : (x + 2 ^ r) / 2 ^ r ≡ x / 2 ^ r + 1 = add-div_right x p in
    rw q (omega arith)

-- a bit below the one added
bit_below : (x s r d : ℕ) → r ≡ suc (s + d) → (x + 2 ^ r) / 2 ^ s % 2 ≡ x / 2 ^ s % 2
bit_below x s r d e =
    let p : 1 ≤ 2 ^ s = one-le-pow s 2 (omega arith) in
    let q : (x + 2 ^ s * (2 * 2 ^ d)) / 2 ^ s ≡ x / 2 ^ s + 2 * 2 ^ d = add-mul-div_left x (2 * 2 ^ d) p in
    rw (pow_apart s r d e, q) (omega arith)

-- a bit above the one added, which was 0
bit_above : (x s r d : ℕ) → s ≡ suc (r + d) → (x / 2 ^ r % 2 ≡ 1 → ⊥) → (x + 2 ^ r) / 2 ^ s % 2 ≡ x / 2 ^ s % 2
bit_above x s r d e h =
    let p : 1 ≤ 2 ^ r = one-le-pow r 2 (omega arith) in
    let q : (x + 2 ^ r) / 2 ^ r ≡ x / 2 ^ r + 1 = add-div_right x p in
    let f : (y : ℕ) → y / (2 ^ r * (2 * 2 ^ d)) ≡ y / 2 ^ r / 2 / 2 ^ d =
    λ y. sym (div-div-eq-div-mul y (2 ^ r) (2 * 2 ^ d)) ∙ sym (div-div-eq-div-mul (y / 2 ^ r) 2 (2 ^ d)) in
    let g : (x / 2 ^ r + 1) / 2 ≡ x / 2 ^ r / 2 = omega arith in
    rw (pow_apart r s d e, f (x + 2 ^ r), f x, q, g)

bit_other : (x s r : ℕ) → (s ≡ r → ⊥) → (x / 2 ^ r % 2 ≡ 1 → ⊥) → (x + 2 ^ r) / 2 ^ s % 2 ≡ x / 2 ^ s % 2
bit_other x s r n h =
    by_test (ltb s r)
    (λ t. bit_below x s r (r - s - 1) (omega (arith, ltb-true s r t)))
    (λ t. let g : r < s = omega (arith, ltb-false s r t) in bit_above x s r (s - r - 1) (omega arith) h)

-- ---- a block marked

-- the bitmap keeps its length
pub mark_length_lem : (bm : List ℕ) (a : ℕ) → length (mark_used bm a) ≡ length bm
unfolding mark_used
mark_length_lem bm a = by_test (is_used bm a) (λ t. rw t) (λ t. rw t (length-set bm (a / 8) (get_or bm (a / 8) 0 + 2 ^ (a % 8))))

-- a marked block is used
pub mark_same : (bm : List ℕ) (a : ℕ) → a / 8 < length bm → is_used (mark_used bm a) a ≡ true
unfolding mark_used is_used
mark_same bm a h =
    by_test (eqb (get_or bm (a / 8) 0 / 2 ^ (a % 8) % 2) 1)
    (λ t. rw (t, t))
    (λ t.
    let x : ℕ = get_or bm (a / 8) 0 in
    let g : get_or (set bm (a / 8) (x + 2 ^ (a % 8))) (a / 8) 0 ≡ x + 2 ^ (a % 8) = get_or-set_same bm (a / 8) (x + 2 ^ (a % 8)) 0 h in
    rw (t, g) (eq-eqb ((x + 2 ^ (a % 8)) / 2 ^ (a % 8) % 2) 1 (bit_set x (a % 8) (eqb-false (x / 2 ^ (a % 8) % 2) 1 t))))

-- every other block is as it was
pub mark_other : (bm : List ℕ) (a b : ℕ) → (b ≡ a → ⊥) → is_used (mark_used bm a) b ≡ is_used bm b
unfolding mark_used is_used
mark_other bm a b n =
    by_test (eqb (get_or bm (a / 8) 0 / 2 ^ (a % 8) % 2) 1)
    (λ t. rw t)
    (λ t. rw t (changed t))
  where
    x : ℕ
    x = get_or bm (a / 8) 0

    changed : eqb (get_or bm (a / 8) 0 / 2 ^ (a % 8) % 2) 1 ≡ false
        → eqb (get_or (set bm (a / 8) (get_or bm (a / 8) 0 + 2 ^ (a % 8))) (b / 8) 0 / 2 ^ (b % 8) % 2) 1
        ≡ eqb (get_or bm (b / 8) 0 / 2 ^ (b % 8) % 2) 1
    changed t =
        by_test (eqb (b / 8) (a / 8))
        (λ u. let q : b / 8 ≡ a / 8 = eqb-true (b / 8) (a / 8) u in
        by_test (ltb (a / 8) (length bm))
        (λ v. let g : get_or (set bm (a / 8) (x + 2 ^ (a % 8))) (a / 8) 0 ≡ x + 2 ^ (a % 8) = get_or-set_same bm (a / 8) (x + 2 ^ (a % 8)) 0
        (ltb-true (a / 8) (length bm) v) in
        rw (q, g) (ap (λ (z : ℕ). eqb z 1) (bit_other x (b % 8) (a % 8) (λ e. n (omega arith)) (eqb-false (x / 2 ^ (a % 8) % 2) 1 t))))
        (λ v. rw (set_out bm (a / 8) (x + 2 ^ (a % 8)) (ltb-false (a / 8) (length bm) v))))
        (λ u. rw (get_or-set_other bm (a / 8) (b / 8) (x + 2 ^ (a % 8)) 0 (eqb-false (b / 8) (a / 8) u)))

-- ---- the lowest free block of a part

-- x is the lowest of n blocks from a on whose bit is 0
pub record Lowest (bm : List ℕ) (n a x : ℕ) : Type 0 where
  pub from : a ≤ x
  pub below : x < a + n
  pub is_free : is_used bm x ≡ false
  pub lowest : (y : ℕ) → a ≤ y → y < x → is_used bm y ≡ true

-- none is free
abbrev pub Full : List ℕ → ℕ → ℕ → Type 0
Full bm n a = (y : ℕ) → a ≤ y → y < a + n → is_used bm y ≡ true

-- what holds of a and from suc a on holds from a on
from_next : (P : ℕ → Type 0) (a y : ℕ) → P a → a ≤ y → (suc a ≤ y → P y) → P y
from_next P a y p h f =
    by_test (eqb a y)
    (λ t. rw (eqb-true a y t) at p)
    (λ t. f (omega (arith, eqb-false a y t)))

-- what firstFree answers is the lowest free block; if it answers none, none is free
pub first_lowest : (bm : List ℕ) (n a x : ℕ) (xs : List ℕ) → first_free bm n a ≡ x ∷ xs → Lowest bm n a x
unfolding first_free
first_lowest bm zero a x xs e = let z : ◌≡◌ {A = ℕ} 0 1 = cc in absurd (omega arith)
first_lowest bm (suc n) a x xs e =
    by_test (is_used bm a)
    (λ t.
    let i : Lowest bm n (suc a) x = first_lowest bm n (suc a) x xs (rw t at e) in
    let f : suc a ≤ x = i.from in
    let b : x < suc a + n = i.below in
    record {
      from = omega arith;
      below = omega arith;
      is_free = i.is_free;
      lowest = λ y h k. from_next (λ (z : ℕ). is_used bm z ≡ true) a y t h (λ g. i.lowest y g k);
    })
    (λ t.
    let q : a ∷ [] ≡ x ∷ xs = rw t at e in
    let p : a ≡ x = cc in
    record { from = omega arith; below = omega arith; is_free = rw p at t; lowest = λ y h k. absurd (omega arith) })

pub first_none : (bm : List ℕ) (n a : ℕ) → first_free bm n a ≡ [] → Full bm n a
unfolding first_free
first_none bm zero a e y h k = absurd (omega arith)
first_none bm (suc n) a e y h k =
    by_test (is_used bm a)
    (λ t. from_next (λ (z : ℕ). is_used bm z ≡ true) a y t h (λ g. first_none bm n (suc a) (rw t at e) y g (omega arith)))
    (λ t. let q : a ∷ [] ≡ [] = rw t at e in let z : ◌≡◌ {A = ℕ} 0 1 = cc in absurd (omega arith))

-- it answers one block at most
pub first_one : (bm : List ℕ) (n a x : ℕ) (xs : List ℕ) → first_free bm n a ≡ x ∷ xs → xs ≡ []
unfolding first_free
first_one bm zero a x xs e = let z : ◌≡◌ {A = ℕ} 0 1 = cc in absurd (omega arith)
first_one bm (suc n) a x xs e =
    by_test (is_used bm a)
    (λ t. first_one bm n (suc a) x xs (rw t at e))
    (λ t. let q : a ∷ [] ≡ x ∷ xs = rw t at e in cc)

-- ---- 0 bits counted

pub zeros_none : (bm : List ℕ) (n a : ℕ) → first_free bm n a ≡ [] → zeros bm n a ≡ 0
unfolding first_free zeros
zeros_none bm zero a e = refl
zeros_none bm (suc n) a e =
    by_test (is_used bm a)
    (λ t. let i : zeros bm n (suc a) ≡ 0 = zeros_none bm n (suc a) (rw t at e) in rw t (omega arith))
    (λ t. let q : a ∷ [] ≡ [] = rw t at e in let z : ◌≡◌ {A = ℕ} 0 1 = cc in absurd (omega arith))

pub zeros_some : (bm : List ℕ) (n a x : ℕ) (xs : List ℕ) → first_free bm n a ≡ x ∷ xs → 0 < zeros bm n a
unfolding first_free zeros
zeros_some bm zero a x xs e = let z : ◌≡◌ {A = ℕ} 0 1 = cc in absurd (omega arith)
zeros_some bm (suc n) a x xs e =
    by_test (is_used bm a)
    (λ t. let i : 0 < zeros bm n (suc a) = zeros_some bm n (suc a) x xs (rw t at e) in rw t (omega arith))
    (λ t. rw t (omega arith))

-- a block marked outside the part changes no count
pub zeros_outside : (bm : List ℕ) (n a x : ℕ) → ((y : ℕ) → a ≤ y → y < a + n → y ≡ x → ⊥) → zeros (mark_used bm x) n a ≡ zeros bm n a
unfolding zeros
zeros_outside bm zero a x h = refl
zeros_outside bm (suc n) a x h =
    ap₂ (λ (t : Bool) (k : ℕ). cond t 0 1 + k)
    (mark_other bm x a (h a (omega arith) (omega arith)))
    (zeros_outside bm n (suc a) x (λ y p q. h y (omega arith) (omega arith)))

-- a free block marked is one 0 bit less
pub zeros_marked : (bm : List ℕ) (n a x : ℕ) → x / 8 < length bm → a ≤ x → x < a + n → is_used bm x ≡ false
    → zeros (mark_used bm x) n a + 1 ≡ zeros bm n a
unfolding zeros
zeros_marked bm zero a x r h k f = absurd (omega arith)
zeros_marked bm (suc n) a x r h k f =
    by_test (eqb a x)
    (λ t.
    let q : x ≡ a = sym (eqb-true a x t) in
    let u : is_used (mark_used bm x) a ≡ true = ap (is_used (mark_used bm x)) (sym q) ∙ mark_same bm x r in
    let v : is_used bm a ≡ false = ap (is_used bm) (sym q) ∙ f in
    let w : zeros (mark_used bm x) n (suc a) ≡ zeros bm n (suc a) = zeros_outside bm n (suc a) x (λ y p g e. omega arith) in
    rw (u, v, w) (omega arith))
    (λ t.
    let g : a < x = omega (arith, eqb-false a x t) in
    let u : is_used (mark_used bm x) a ≡ is_used bm a = mark_other bm x a (λ e. omega arith) in
    let w : zeros (mark_used bm x) n (suc a) + 1 ≡ zeros bm n (suc a) = zeros_marked bm n (suc a) x r (omega arith) (omega arith) f in
    rw u (omega arith))

-- ---- the block chosen

-- from chunk c on, x is chosen: its bit is 0, below its chunk's block count, in a chunk with nonzero free count; no lower block of its chunk is free,
-- nor any of an
-- earlier chunk with nonzero free count
pub record Chosen (bm : List ℕ) (size c : ℕ) (ns fs : List ℕ) (x : Choice) : Type 0 where
  pub at : ℕ
  pub chunk : x.chunk ≡ c + at
  pub counted : at < length ns
  pub nonzero : get_or fs at 0 ≡ 0 → ⊥
  pub block : Lowest bm (get_or ns at 0) ((c + at) * chunk_blocks size) x.block
  pub first : (i : ℕ) → i < at → (get_or fs i 0 ≡ 0 → ⊥) → Full bm (get_or ns i 0) ((c + i) * chunk_blocks size)

-- by cases on a list, the equation kept
pub by_list : {A C : Type 0} (l : List A) → (l ≡ [] → C) → ((x : A) (xs : List A) → l ≡ x ∷ xs → C) → C
by_list [] f g = f refl
by_list (x ∷ xs) f g = g x xs refl

-- chunk c first, and then the next
chunk_next : (bm : List ℕ) (size c n f : ℕ) (ns fs : List ℕ) (x : Choice)
    → ((f ≡ 0 → ⊥) → Full bm n (c * chunk_blocks size)) → Chosen bm size (suc c) ns fs x → Chosen bm size c (n ∷ ns) (f ∷ fs) x
chunk_next bm size c n f ns fs x h i =
    let k : x.chunk ≡ suc c + i.at = i.chunk in
    let l : i.at < length ns = i.counted in
    let q : suc c + i.at ≡ c + suc i.at = omega arith in
    record {
      at = suc i.at;
      chunk = omega arith;
      counted = omega arith;
      nonzero = i.nonzero;
      block = rw q at i.block;
      first = earlier;
    }
  where
    earlier : (j : ℕ) → j < suc i.at → (get_or (f ∷ fs) j 0 ≡ 0 → ⊥) → Full bm (get_or (n ∷ ns) j 0) ((c + j) * chunk_blocks size)
    earlier zero p m = let q : c + 0 ≡ c = omega arith in rw q (h m)
    earlier (suc j) p m =
        let q : suc c + j ≡ c + suc j = omega arith in
        let g : Full bm (get_or ns j 0) ((suc c + j) * chunk_blocks size) = i.first j (omega arith) m in
        rw q at g

pub choose_chosen : (bm : List ℕ) (size c : ℕ) (ns fs : List ℕ) (x : Choice) (xs : List Choice) → choose_from bm size c ns fs ≡ x ∷ xs
    → Chosen bm size c ns fs x
unfolding choose_from
choose_chosen bm size c [] fs x xs e = let z : ◌≡◌ {A = ℕ} 0 1 = cc in absurd (omega arith)
choose_chosen bm size c (n ∷ ns) [] x xs e = let z : ◌≡◌ {A = ℕ} 0 1 = cc in absurd (omega arith)
choose_chosen bm size c (n ∷ ns) (f ∷ fs) x xs e =
    by_test (eqb f 0)
    (λ t. chunk_next bm size c n f ns fs x (λ m. absurd (m (eqb-true f 0 t))) (choose_chosen bm size (suc c) ns fs x xs (rw t at e)))
    (λ t. by_list (first_free bm n (c * chunk_blocks size))
    (λ q. chunk_next bm size c n f ns fs x (λ m. first_none bm n (c * chunk_blocks size) q)
    (choose_chosen bm size (suc c) ns fs x xs (rw (t, q) at e)))
    (λ a as' q.
    let r : record { chunk = c; block = a } ∷ [] ≡ x ∷ xs = rw (t, q) at e in
    let p : ◌≡◌ {A = Choice} (record { chunk = c; block = a }) x = cc in
    let l : Lowest bm n (c * chunk_blocks size) a = first_lowest bm n (c * chunk_blocks size) a as' q in
    let z : c + 0 ≡ c = omega arith in
    let g : Chosen bm size c (n ∷ ns) (f ∷ fs) (record { chunk = c; block = a }) =
    record { at = 0; chunk = omega arith; counted = omega arith; nonzero = eqb-false f 0 t; block = rw z l; first = λ i h m. absurd (omega arith) } in
    rw p at g))

-- it chooses one block at most
pub choose_one : (bm : List ℕ) (size c : ℕ) (ns fs : List ℕ) (x : Choice) (xs : List Choice) → choose_from bm size c ns fs ≡ x ∷ xs → xs ≡ []
unfolding choose_from
choose_one bm size c [] fs x xs e = let z : ◌≡◌ {A = ℕ} 0 1 = cc in absurd (omega arith)
choose_one bm size c (n ∷ ns) [] x xs e = let z : ◌≡◌ {A = ℕ} 0 1 = cc in absurd (omega arith)
choose_one bm size c (n ∷ ns) (f ∷ fs) x xs e =
    by_test (eqb f 0)
    (λ t. choose_one bm size (suc c) ns fs x xs (rw t at e))
    (λ t. by_list (first_free bm n (c * chunk_blocks size))
    (λ q. choose_one bm size (suc c) ns fs x xs (rw (t, q) at e))
    (λ a as' q. let r : record { chunk = c; block = a } ∷ [] ≡ x ∷ xs = rw (t, q) at e in cc))

-- ---- usable blocks

lesser_left : (a b : ℕ) → lesser a b ≤ a
unfolding lesser
lesser_left a b = by_test (leb a b) (λ t. rw t (omega arith)) (λ t. let h : b < a = leb-false a b t in rw t (omega arith))

lesser_right : (a b : ℕ) → lesser a b ≤ b
unfolding lesser
lesser_right a b = by_test (leb a b) (λ t. let h : a ≤ b = leb-true a b t in rw t (omega arith)) (λ t. rw t (omega arith))

lesser_some : (a b : ℕ) → 0 < a → 0 < b → 0 < lesser a b
unfolding lesser
lesser_some a b h k = by_test (leb a b) (λ t. rw t h) (λ t. rw t k)

lesser_less : (a b c : ℕ) → (a ≡ 0 → ⊥) → c + 1 ≡ b → lesser (a - 1) c + 1 ≡ lesser a b
unfolding lesser
lesser_less a b c h e =
    by_test (leb a b)
    (λ t. let k : a ≤ b = leb-true a b t in rw (t, le-leb (a - 1) c (omega arith)) (omega arith))
    (λ t. let k : b < a = leb-false a b t in
    by_test (leb (a - 1) c)
    (λ u. let l : a - 1 ≤ c = leb-true (a - 1) c u in rw (t, u) (omega arith))
    (λ u. rw (t, u) e))

-- no block is usable where none is chosen
pub usable_none : (bm : List ℕ) (size c : ℕ) (ns fs : List ℕ) → choose_from bm size c ns fs ≡ [] → usable_from bm size c ns fs ≡ 0
unfolding choose_from usable_from
usable_none bm size c [] fs e = refl
usable_none bm size c (n ∷ ns) [] e = refl
usable_none bm size c (n ∷ ns) (f ∷ fs) e =
    by_test (eqb f 0)
    (λ t. let i : usable_from bm size (suc c) ns fs ≡ 0 = usable_none bm size (suc c) ns fs (rw t at e) in
    omega (arith, lesser_left f (zeros bm n (c * chunk_blocks size)), eqb-true f 0 t))
    (λ t. by_list (first_free bm n (c * chunk_blocks size))
    (λ q. let i : usable_from bm size (suc c) ns fs ≡ 0 = usable_none bm size (suc c) ns fs (rw (t, q) at e) in
    omega (arith, lesser_right f (zeros bm n (c * chunk_blocks size)), zeros_none bm n (c * chunk_blocks size) q))
    (λ a as' q. let r : record { chunk = c; block = a } ∷ [] ≡ [] = rw (t, q) at e in let z : ◌≡◌ {A = ℕ} 0 1 = cc in absurd (omega arith)))

-- and some where one is
pub usable_some : (bm : List ℕ) (size c : ℕ) (ns fs : List ℕ) (x : Choice) (xs : List Choice) → choose_from bm size c ns fs ≡ x ∷ xs
    → 0 < usable_from bm size c ns fs
unfolding choose_from usable_from
usable_some bm size c [] fs x xs e = let z : ◌≡◌ {A = ℕ} 0 1 = cc in absurd (omega arith)
usable_some bm size c (n ∷ ns) [] x xs e = let z : ◌≡◌ {A = ℕ} 0 1 = cc in absurd (omega arith)
usable_some bm size c (n ∷ ns) (f ∷ fs) x xs e =
    by_test (eqb f 0)
    (λ t. let i : 0 < usable_from bm size (suc c) ns fs = usable_some bm size (suc c) ns fs x xs (rw t at e) in omega arith)
    (λ t. by_list (first_free bm n (c * chunk_blocks size))
    (λ q. let i : 0 < usable_from bm size (suc c) ns fs = usable_some bm size (suc c) ns fs x xs (rw (t, q) at e) in omega arith)
    (λ a as' q.
    let k : 0 < f = omega (arith, eqb-false f 0 t) in
    let l : 0 < lesser f (zeros bm n (c * chunk_blocks size)) = lesser_some f (zeros bm n (c * chunk_blocks size)) k
    (zeros_some bm n (c * chunk_blocks size) a as' q) in
    omega arith))

-- a block marked before chunk c changes nothing from chunk c on
usable_outside : (bm : List ℕ) (size c : ℕ) (ns fs : List ℕ) (x : ℕ) → x < c * chunk_blocks size
    → usable_from (mark_used bm x) size c ns fs ≡ usable_from bm size c ns fs
unfolding usable_from
usable_outside bm size c [] fs x h = refl
usable_outside bm size c (n ∷ ns) [] x h = refl
usable_outside bm size c (n ∷ ns) (f ∷ fs) x h =
    ap₂ (λ (z k : ℕ). lesser f z + k)
    (zeros_outside bm n (c * chunk_blocks size) x (λ y p q e. omega arith))
    (usable_outside bm size (suc c) ns fs x (omega arith))

-- the block counts of a space that holds
count_le : (size blocks c : ℕ) (ns : List ℕ) (i : ℕ) → chunks_hold size blocks c ns ≡ true → i < length ns → get_or ns i 0 ≤ chunk_blocks size
unfolding chunks_hold
count_le size blocks c [] i h k = absurd (omega arith)
count_le size blocks c (n ∷ ns) zero h k =
    leb-true n (chunk_blocks size) (and_split (leb n (chunk_blocks size)) (leb (c * chunk_blocks size + n) blocks)
    (and_split (leb n (chunk_blocks size) && leb (c * chunk_blocks size + n) blocks) (chunks_hold size blocks (suc c) ns) h).0).0
count_le size blocks c (n ∷ ns) (suc i) h k =
    count_le size blocks (suc c) ns i (and_split (leb n (chunk_blocks size) && leb (c * chunk_blocks size + n) blocks)
    (chunks_hold size blocks (suc c) ns) h).1 (omega arith)

chunks_rest : (size blocks c n : ℕ) (ns : List ℕ) → chunks_hold size blocks c (n ∷ ns) ≡ true → chunks_hold size blocks (suc c) ns ≡ true
unfolding chunks_hold
chunks_rest size blocks c n ns h = (and_split (leb n (chunk_blocks size) && leb (c * chunk_blocks size + n) blocks)
    (chunks_hold size blocks (suc c) ns) h).1

-- the block taken lies in chunk c
usable_here : (bm : List ℕ) (size c n : ℕ) (ns : List ℕ) (f : ℕ) (fs : List ℕ) (x : Choice) → n ≤ chunk_blocks size → (f ≡ 0 → ⊥) → x.chunk ≡ c
    → Lowest bm n (c * chunk_blocks size) x.block → x.block / 8 < length bm
    → usable_from (mark_used bm x.block) size c (n ∷ ns) (set (f ∷ fs) (x.chunk - c) (get_or (f ∷ fs) (x.chunk - c) 0 - 1)) + 1
    ≡ usable_from bm size c (n ∷ ns) (f ∷ fs)
unfolding usable_from
usable_here bm size c n ns f fs x k m p l r =
    let z : x.chunk - c ≡ 0 = omega arith in
    let b : x.block < c * chunk_blocks size + n = l.below in
    let u : zeros (mark_used bm x.block) n (c * chunk_blocks size) + 1 ≡ zeros bm n (c * chunk_blocks size) = zeros_marked bm n
    (c * chunk_blocks size) x.block r l.from b l.is_free in
    let v : lesser (f - 1) (zeros (mark_used bm x.block) n (c * chunk_blocks size)) + 1 ≡ lesser f
    (zeros bm n (c * chunk_blocks size)) = lesser_less f (zeros bm n (c * chunk_blocks size))
    (zeros (mark_used bm x.block) n (c * chunk_blocks size)) m u in
    let w : usable_from (mark_used bm x.block) size (suc c) ns fs ≡ usable_from bm size (suc c) ns fs = usable_outside bm size (suc c) ns fs
    x.block (omega arith) in
    rw z (omega arith)

-- the block taken lies in a later chunk
usable_later : (bm : List ℕ) (size c n : ℕ) (ns : List ℕ) (f : ℕ) (fs : List ℕ) (x : Choice) → n ≤ chunk_blocks size → Chosen bm size (suc c) ns fs x
    → usable_from (mark_used bm x.block) size (suc c) ns (set fs (x.chunk - suc c) (get_or fs (x.chunk - suc c) 0 - 1)) + 1 ≡ usable_from bm size
    (suc c) ns fs
    → usable_from (mark_used bm x.block) size c (n ∷ ns) (set (f ∷ fs) (x.chunk - c) (get_or (f ∷ fs) (x.chunk - c) 0 - 1)) + 1
    ≡ usable_from bm size c (n ∷ ns) (f ∷ fs)
unfolding usable_from
usable_later bm size c n ns f fs x k g i =
    let p : x.chunk ≡ suc c + g.at = g.chunk in
    let z : x.chunk - c ≡ suc (x.chunk - suc c) = omega arith in
    let b : (suc c + g.at) * chunk_blocks size ≤ x.block = g.block.from in
    let u : zeros (mark_used bm x.block) n (c * chunk_blocks size) ≡ zeros bm n (c * chunk_blocks size) = zeros_outside bm n (c * chunk_blocks size)
    x.block (λ y q r e. omega arith) in
    rw (z, u) (omega arith)

-- the block chosen taken: one usable block less
usable_taken : (bm : List ℕ) (size blocks c : ℕ) (ns fs : List ℕ) (x : Choice) (xs : List Choice) → chunks_hold size blocks c ns ≡ true
    → choose_from bm size c ns fs ≡ x ∷ xs → x.block / 8 < length bm
    → usable_from (mark_used bm x.block) size c ns (set fs (x.chunk - c) (get_or fs (x.chunk - c) 0 - 1)) + 1 ≡ usable_from bm size c ns fs
unfolding choose_from usable_from
usable_taken bm size blocks c [] fs x xs h e r = let z : ◌≡◌ {A = ℕ} 0 1 = cc in absurd (omega arith)
usable_taken bm size blocks c (n ∷ ns) [] x xs h e r = let z : ◌≡◌ {A = ℕ} 0 1 = cc in absurd (omega arith)
usable_taken bm size blocks c (n ∷ ns) (f ∷ fs) x xs h e r =
    by_test (eqb f 0)
    (λ t. later (rw t at e) (λ i. usable_taken bm size blocks (suc c) ns fs x xs rest i r))
    (λ t. by_list (first_free bm n (c * chunk_blocks size))
    (λ q. later (rw (t, q) at e) (λ i. usable_taken bm size blocks (suc c) ns fs x xs rest i r))
    (λ a as' q.
    let g : record { chunk = c; block = a } ∷ [] ≡ x ∷ xs = rw (t, q) at e in
    let p : ◌≡◌ {A = Choice} (record { chunk = c; block = a }) x = cc in
    here t a (ap (λ (z : Choice). z.chunk) (sym p)) (ap (λ (z : Choice). z.block) (sym p)) (first_lowest bm n (c * chunk_blocks size) a as' q)))
  where
    small : n ≤ chunk_blocks size
    small = count_le size blocks c (n ∷ ns) 0 h (omega arith)

    rest : chunks_hold size blocks (suc c) ns ≡ true
    rest = chunks_rest size blocks c n ns h

    here : eqb f 0 ≡ false → (a : ℕ) → x.chunk ≡ c → x.block ≡ a → Lowest bm n (c * chunk_blocks size) a
        → usable_from (mark_used bm x.block) size c (n ∷ ns) (set (f ∷ fs) (x.chunk - c) (get_or (f ∷ fs) (x.chunk - c) 0 - 1)) + 1
        ≡ usable_from bm size c (n ∷ ns) (f ∷ fs)
    here t a p q l = usable_here bm size c n ns f fs x small (eqb-false f 0 t) p (rw (← q) at l) r

    later : choose_from bm size (suc c) ns fs ≡ x ∷ xs
        → (choose_from bm size (suc c) ns fs ≡ x ∷ xs → usable_from (mark_used bm x.block) size (suc c) ns
        (set fs (x.chunk - suc c) (get_or fs (x.chunk - suc c) 0 - 1)) + 1 ≡ usable_from bm size (suc c) ns fs)
        → usable_from (mark_used bm x.block) size c (n ∷ ns) (set (f ∷ fs) (x.chunk - c) (get_or (f ∷ fs) (x.chunk - c) 0 - 1)) + 1
        ≡ usable_from bm size c (n ∷ ns) (f ∷ fs)
    later q i = usable_later bm size c n ns f fs x small (choose_chosen bm size (suc c) ns fs x xs q) (i q)

chosen_from : (size : ℕ) (p : Space) (x : Choice) (xs : List Choice) → choose size p ≡ x ∷ xs → choose_from p.bitmap size 0 p.counts
    p.free ≡ x ∷ xs
unfolding choose
chosen_from size p x xs e = e

inside_at : (size blocks c : ℕ) (ns : List ℕ) (i : ℕ) → chunks_hold size blocks c ns ≡ true → i < length ns
    → (c + i) * chunk_blocks size + get_or ns i 0 ≤ blocks
unfolding chunks_hold
inside_at size blocks c [] i h k = absurd (omega arith)
inside_at size blocks c (n ∷ ns) zero h k =
    let q : c + 0 ≡ c = omega arith in
    rw q (leb-true (c * chunk_blocks size + n) blocks
    (and_split (leb n (chunk_blocks size)) (leb (c * chunk_blocks size + n) blocks)
    (and_split (leb n (chunk_blocks size) && leb (c * chunk_blocks size + n) blocks) (chunks_hold size blocks (suc c) ns) h).0).1)
inside_at size blocks c (n ∷ ns) (suc i) h k =
    let q : suc c + i ≡ c + suc i = omega arith in
    let g : (suc c + i) * chunk_blocks size + get_or ns i 0 ≤ blocks = inside_at size blocks (suc c) ns i (chunks_rest size blocks c n ns h)
    (omega arith) in
    rw q at g

-- ---- the laws of a space that holds

-- the parts of `space_holds`
holds_lengths : (size blocks : ℕ) (p : Space) → space_holds size blocks p ≡ true
    → (length p.bitmap ≡ length p.counts * size) × (length p.free ≡ length p.counts) × (chunks_hold size blocks 0 p.counts ≡ true)
unfolding space_holds
holds_lengths size blocks p h =
    let (q, r) = and_split (eqb (length p.bitmap) (length p.counts * size) && eqb (length p.free) (length p.counts))
    (chunks_hold size blocks 0 p.counts) h in
    let (s, t) = and_split (eqb (length p.bitmap) (length p.counts * size)) (eqb (length p.free) (length p.counts)) q in
    (eqb-true (length p.bitmap) (length p.counts * size) s, eqb-true (length p.free) (length p.counts) t, r)

-- the block that is chosen: free, lowest, in the first eligible chunk
pub chosen : (size : ℕ) (p : Space) (x : Choice) (xs : List Choice) → choose size p ≡ x ∷ xs → Chosen p.bitmap size 0 p.counts p.free x
unfolding choose
chosen size p x xs e = choose_chosen p.bitmap size 0 p.counts p.free x xs e

-- its bit lies in the bitmap
pub chosen_mapped : (size blocks : ℕ) (p : Space) (x : Choice) (xs : List Choice) → space_holds size blocks p ≡ true → choose size p ≡ x ∷ xs
    → x.block / 8 < length p.bitmap
unfolding chunk_blocks
chosen_mapped size blocks p x xs h e =
    let l = holds_lengths size blocks p h in
    let l0 : length p.bitmap ≡ length p.counts * size = l.0 in
    let g = chosen size p x xs e in
    let k : g.at < length p.counts = g.counted in
    let c : get_or p.counts g.at 0 ≤ 8 * size = count_le size blocks 0 p.counts g.at l.2 k in
    let b : x.block < (0 + g.at) * (8 * size) + get_or p.counts g.at 0 = g.block.below in
    let m : suc g.at * (8 * size) ≤ length p.counts * (8 * size) = mul-le-mul_right (8 * size) k in
    omega arith

-- and its address in the image
pub chosen_inside : (size blocks : ℕ) (p : Space) (x : Choice) (xs : List Choice) → space_holds size blocks p ≡ true → choose size p ≡ x ∷ xs
    → x.block < blocks
chosen_inside size blocks p x xs h e =
    let g = chosen size p x xs e in
    let b : x.block < (0 + g.at) * chunk_blocks size + get_or p.counts g.at 0 = g.block.below in
    let i : (0 + g.at) * chunk_blocks size + get_or p.counts g.at 0 ≤ blocks = inside_at size blocks 0 p.counts g.at
    (holds_lengths size blocks p h).2 g.counted in
    omega arith

-- a choice keeps what holds of a space
pub taken_holds : (size blocks : ℕ) (p : Space) (x : Choice) → space_holds size blocks p ≡ true → space_holds size blocks (taken p x) ≡ true
unfolding space_holds taken
taken_holds size blocks p x h = rw (mark_length_lem p.bitmap x.block, length-set p.free x.chunk (get_or p.free x.chunk 0 - 1)) h

-- usable blocks are none exactly where no block is chosen
pub usable_zero : (size : ℕ) (p : Space) → (usable size p ≡ 0 → choose size p ≡ []) × (choose size p ≡ [] → usable size p ≡ 0)
unfolding usable choose
usable_zero size p = (
  λ e. by_list (choose_from p.bitmap size 0 p.counts p.free)
      (λ q. q)
      (λ x xs q. let k = usable_some p.bitmap size 0 p.counts p.free x xs q in absurd (omega arith)),
  usable_none p.bitmap size 0 p.counts p.free,
)

-- a choice takes one usable block
pub usable_less : (size blocks : ℕ) (p : Space) (x : Choice) (xs : List Choice) → space_holds size blocks p ≡ true → choose size p ≡ x ∷ xs
    → usable size (taken p x) + 1 ≡ usable size p
unfolding usable taken
usable_less size blocks p x xs h e =
    let u = usable_taken p.bitmap size blocks 0 p.counts p.free x xs (holds_lengths size blocks p h).2 (chosen_from size p x xs e)
    (chosen_mapped size blocks p x xs h e) in
    let z : x.chunk - 0 ≡ x.chunk = omega arith in
    rw z at u

-- ---- choices in a row

-- a choice, and what follows from what it left
abbrev pub onward : (Space → List Choice) → Space → List Choice → List Choice
onward next p [] = []
onward next p (x ∷ xs) = x ∷ next (taken p x)

-- n choices in a row, each from what the one before left
unfoldable pub choices : ℕ → ℕ → Space → List Choice
choices zero size p = []
choices (suc n) size p = onward (choices n size) p (choose size p)

-- n choices in a row give n blocks, or all usable blocks if those are fewer: 16 is refused exactly where a choice would find no block
pub choices_length : (n size blocks : ℕ) (p : Space) → space_holds size blocks p ≡ true → length (choices n size p) ≡ lesser n (usable size p)
unfolding choices
choices_length zero size blocks p h = let k = lesser_left 0 (usable size p) in omega arith
choices_length (suc n) size blocks p h =
    by_list (choose size p)
    (λ q. let u : usable size p ≡ 0 = (usable_zero size p).1 q in let k = lesser_right (suc n) (usable size p) in rw q (omega arith))
    (λ x xs q.
    let u : usable size (taken p x) + 1 ≡ usable size p = usable_less size blocks p x xs h q in
    let i : length (choices n size (taken p x)) ≡ lesser n (usable size (taken p x)) = choices_length n size blocks (taken p x)
    (taken_holds size blocks p x h) in
    let l : lesser (suc n - 1) (usable size (taken p x)) + 1 ≡ lesser (suc n) (usable size p) = lesser_less (suc n) (usable size p)
    (usable size (taken p x)) (λ e. omega arith) u in
    let z : suc n - 1 ≡ n = omega arith in
    let l' : lesser n (usable size (taken p x)) + 1 ≡ lesser (suc n) (usable size p) = rw z at l in
    rw q (omega arith))
