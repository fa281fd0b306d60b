-- Laws of finding a key among entries: its place, whether it is there, and the way to it. Assumes nothing.
use Rattle.std.specs.Prelude.{◌≡◌, refl, List, [], ◌∷◌, true, false, cond, not, ℕ, zero, suc, ◌+◌, ◌-◌, ◌≤◌, ◌<◌, length, eqb}
use Rattle.std.proofs.Common.{sym, ap, ◌∙◌, arith, eqb-true}
use Rattle.std.proofs.lemmas.Bool.{eqb-false, not-true}
use Rattle.node.specs.Order.{less}
use Rattle.node.specs.Entry.{Entry, rise_after, rising}
use Rattle.node.specs.Find.{key_at, place_of, is_there, not_above, way_index}
use Rattle.node.specs.laws.base.Tests.{by_test, never, and_left}
use Rattle.node.specs.laws.order.Order.{Key, less_total, less_trans, less_asym}
use Rattle.node.specs.laws.order.Rising.{Keys, rise_rising}

-- ---- one entry at a time

module _ (o : ℕ) (k : List ℕ) (x : Entry) (xs : List Entry) where
  pub place_later : less o x.key k ≡ true → place_of o k (x ∷ xs) ≡ suc (place_of o k xs)
  unfolding place_of
  place_later t = rw t

  pub place_here : less o x.key k ≡ false → place_of o k (x ∷ xs) ≡ 0
  unfolding place_of
  place_here t = rw t

  -- past an entry below k: there if it is among the rest
  pub there_later : less o x.key k ≡ true → is_there o k (x ∷ xs) ≡ is_there o k xs
  unfolding is_there
  there_later t = rw t

  -- at the first entry not below k: there if that is not above k
  pub there_here : less o x.key k ≡ false → is_there o k (x ∷ xs) ≡ not (less o k x.key)
  unfolding is_there
  there_here t = rw t

-- nothing is there in an empty node
pub there_nil : (o : ℕ) (k : List ℕ) → is_there o k [] ≡ false
unfolding is_there
there_nil o k = refl

-- ---- the place of a key

-- at most the number of entries
pub place_le : (o : ℕ) (k : List ℕ) (es : List Entry) → place_of o k es ≤ length es
unfolding place_of
place_le o k [] = omega arith
place_le o k (x ∷ xs) = by_test (less o x.key k) (λ t. let i = place_le o k xs in rw t (omega arith)) (λ t. rw t (omega arith))

-- every key before it is below k
pub place_before : (o : ℕ) (k : List ℕ) (es : List Entry) (i : ℕ) → i < place_of o k es → less o (key_at es i) k ≡ true
unfolding place_of key_at
place_before o k [] i h = absurd (omega arith)
place_before o k (x ∷ xs) zero h =
    by_test (less o x.key k) (λ t. t) (λ t. let g : 0 < 0 = rw t at h in absurd (omega arith))
place_before o k (x ∷ xs) (suc i) h =
    by_test (less o x.key k)
    (λ t. let g : suc i < suc (place_of o k xs) = rw t at h in place_before o k xs i (omega arith))
    (λ t. let g : suc i < 0 = rw t at h in absurd (omega arith))

-- the key at it, if there is one, is not
pub place_at : (o : ℕ) (k : List ℕ) (es : List Entry) → place_of o k es < length es → less o (key_at es (place_of o k es)) k ≡ false
unfolding place_of key_at
place_at o k [] h = absurd (omega arith)
place_at o k (x ∷ xs) h =
    by_test (less o x.key k)
    (λ t. let g : suc (place_of o k xs) < suc (length xs) = rw t at h in rw t (place_at o k xs (omega arith)))
    (λ t. rw t t)

-- there: the key at its place is k
pub there_key : (o : ℕ) (k : List ℕ) (es : List Entry) → Key o k → Keys o es → is_there o k es ≡ true → key_at es (place_of o k es) ≡ k
unfolding key_at
there_key o k [] h m f = never f (there_nil o k)
there_key o k (x ∷ xs) h m f =
    by_test (less o x.key k)
    (λ t. rw (place_later o k x xs t) (there_key o k xs h m.1 (sym (there_later o k x xs t) ∙ f)))
    (λ t. rw (place_here o k x xs t) (less_total o x.key k m.0 h t (not-true (less o k x.key) (sym (there_here o k x xs t) ∙ f))))

-- there: its place is one of the entries
pub there_in : (o : ℕ) (k : List ℕ) (es : List Entry) → is_there o k es ≡ true → place_of o k es < length es
there_in o k [] f = never f (there_nil o k)
there_in o k (x ∷ xs) f =
    by_test (less o x.key k)
    (λ t. let i : place_of o k xs < length xs = there_in o k xs (sym (there_later o k x xs t) ∙ f) in rw (place_later o k x xs t) (omega arith))
    (λ t. rw (place_here o k x xs t) (omega arith))

-- ---- keys not above k

pub above_le : (o : ℕ) (k : List ℕ) (es : List Entry) → not_above o k es ≤ length es
unfolding not_above
above_le o k [] = omega arith
above_le o k (x ∷ xs) = by_test (less o k x.key) (λ t. rw t (omega arith)) (λ t. let i = above_le o k xs in rw t (omega arith))

-- each of them is not above k
pub above_before : (o : ℕ) (k : List ℕ) (es : List Entry) (i : ℕ) → i < not_above o k es → less o k (key_at es i) ≡ false
unfolding not_above key_at
above_before o k [] i h = absurd (omega arith)
above_before o k (x ∷ xs) zero h =
    by_test (less o k x.key) (λ t. let g : 0 < 0 = rw t at h in absurd (omega arith)) (λ t. t)
above_before o k (x ∷ xs) (suc i) h =
    by_test (less o k x.key)
    (λ t. let g : suc i < 0 = rw t at h in absurd (omega arith))
    (λ t. let g : suc i < suc (not_above o k xs) = rw t at h in above_before o k xs i (omega arith))

-- the next, if there is one, is
pub above_next : (o : ℕ) (k : List ℕ) (es : List Entry) → not_above o k es < length es → less o k (key_at es (not_above o k es)) ≡ true
unfolding not_above key_at
above_next o k [] h = absurd (omega arith)
above_next o k (x ∷ xs) h =
    by_test (less o k x.key)
    (λ t. rw t t)
    (λ t. let g : suc (not_above o k xs) < suc (length xs) = rw t at h in rw t (above_next o k xs (omega arith)))

-- none of what rises after k
pub above_none : (o : ℕ) (k : List ℕ) (es : List Entry) → rise_after o k es ≡ true → not_above o k es ≡ 0
unfolding not_above rise_after
above_none o k [] g = refl
above_none o k (y ∷ ys) g = rw (and_left (less o k y.key) (rise_after o y.key ys) g)

-- in rising entries they are those below k, and k itself if it is there
pub above_place : (o : ℕ) (k : List ℕ) (es : List Entry) → Key o k → Keys o es → rising o es ≡ true → not_above o k es ≡ place_of o k es + cond
    (is_there o k es) 1 0
unfolding not_above place_of rising
above_place o k [] h m r = rw (there_nil o k)
above_place o k (x ∷ xs) h m r =
    by_test (less o x.key k)
    (λ t.
    let i : not_above o k xs ≡ place_of o k xs + cond (is_there o k xs) 1 0 = above_place o k xs h m.1 (rise_rising o x.key xs r) in
    rw (there_later o k x xs t, t, less_asym o x.key k m.0 h t) (omega arith))
    (λ t. by_test (less o k x.key)
    (λ u. rw (there_here o k x xs t, t, u))
    (λ u.
    let q : x.key ≡ k = less_total o x.key k m.0 h t u in
    let i : not_above o k xs ≡ 0 = above_none o k xs (rw q at r) in
    rw (there_here o k x xs t, t, u) (omega arith)))

-- ---- the way to a key

-- an index node's way leads to one of its children
pub way_in : (o : ℕ) (k : List ℕ) (es : List Entry) → 0 < length es → way_index o k es < length es
unfolding way_index
way_in o k es h = let g = above_le o k es in omega arith

-- the child's index key is not above k, unless it is child 0
pub way_not_above : (o : ℕ) (k : List ℕ) (es : List Entry) → 0 < way_index o k es → less o k (key_at es (way_index o k es)) ≡ false
unfolding way_index
way_not_above o k es h = above_before o k es (not_above o k es - 1) (omega arith)

-- above the first key above k: the second
second : (o : ℕ) (k : List ℕ) (es : List Entry) → Key o k → Keys o es → rising o es ≡ true → 1 < length es → less o k (key_at es 0) ≡ true
    → less o k (key_at es 1) ≡ true
unfolding key_at rising rise_after
second o k [] h m r l u = absurd (omega arith)
second o k (x ∷ []) h m r l u = absurd (omega arith)
second o k (x ∷ y ∷ ys) h m r l u = less_trans o k x.key y.key h m.0 m.1.0 u
    (and_left (less o x.key y.key) (rise_after o y.key ys) r)

-- the next child's is above k
pub way_next : (o : ℕ) (k : List ℕ) (es : List Entry) → Key o k → Keys o es → rising o es ≡ true → suc (way_index o k es) < length es
    → less o k (key_at es (suc (way_index o k es))) ≡ true
unfolding way_index
way_next o k es h m r g =
    by_test (eqb (not_above o k es) 0)
    (λ t.
    let z : not_above o k es ≡ 0 = eqb-true (not_above o k es) 0 t in
    let w : not_above o k es - 1 ≡ 0 = omega arith in
    let l : 1 < length es = omega arith in
    let u : less o k (key_at es 0) ≡ true = ap (λ (i : ℕ). less o k (key_at es i)) (sym z) ∙ above_next o k es (omega arith) in
    rw w (second o k es h m r l u))
    (λ t.
    let n : (not_above o k es ≡ 0 → ⊥) = eqb-false (not_above o k es) 0 t in
    let w : suc (not_above o k es - 1) ≡ not_above o k es = omega arith in
    rw w (above_next o k es (omega arith)))
