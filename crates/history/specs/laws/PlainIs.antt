-- The plain list's functions are those of one leaf: each by its own recursion, and the same. Assumes nothing.
use Rattle.std.specs.Prelude.{◌≡◌, refl, List, [], ◌∷◌, cond, ◌&&◌, not, ℕ, zero, suc, ◌-◌, ◌≤◌, ◌<◌, length, take, drop}
use Rattle.std.proofs.Common.{sym, ap, ◌∙◌, arith, length-take, length-drop}
use Rattle.node.specs.Order.{less}
use Rattle.node.specs.Entry.{Entry, Val}
use Rattle.node.specs.Find.{place_of, is_there, not_above, last_not_above}
use Rattle.node.specs.Slot.{insert_at}
use Rattle.node.specs.laws.base.Tests.{by_test}
use Rattle.node.specs.laws.order.Found.{there_later, there_here, above_le}
use Rattle.tree.specs.Lookup.{held, ends_above, between}
use Rattle.tree.specs.Upsert.{put_entry}
use Rattle.tree.specs.laws.state.Entries.{without, without_later, without_here, put_later, put_on, put_new, held_later, held_on, held_off}
use Rattle.history.specs.Plain.{plain_upsert, plain_remove, plain_has, plain_get, or_later, plain_floor, plain_range}

put_none : (o : ℕ) (e : Entry) → put_entry o e [] ≡ e ∷ []
unfolding put_entry is_there place_of insert_at
put_none o e = refl

without_none : (o : ℕ) (k : List ℕ) → [] ≡ cond (is_there o k []) (without o k []) []
unfolding is_there
without_none o k = refl

held_none : (o : ℕ) (k : List ℕ) → [] ≡ held o k []
unfolding held is_there
held_none o k = refl

pub upsert_is : (o : ℕ) (k : List ℕ) (v : Val) (es : List Entry) → plain_upsert o k v es ≡ put_entry o (record { key = k; value = v }) es
unfolding plain_upsert
upsert_is o k v [] = sym (put_none o (record { key = k; value = v }))
upsert_is o k v (x ∷ xs) =
    let e : Entry = record { key = k; value = v } in
    by_test (less o x.key k)
    (λ t. rw t (ap (λ (l : List Entry). x ∷ l) (upsert_is o k v xs) ∙ sym (put_later o x xs e t)))
    (λ t. by_test (less o k x.key) (λ u. rw (t, u) (sym (put_new o x xs e t u))) (λ u. rw (t, u) (sym (put_on o x xs e t u))))

pub has_is : (o : ℕ) (k : List ℕ) (es : List Entry) → plain_has o k es ≡ is_there o k es
unfolding plain_has is_there
has_is o k [] = refl
has_is o k (x ∷ xs) = by_test (less o x.key k) (λ t. rw t (has_is o k xs)) (λ t. rw t)

pub remove_is : (o : ℕ) (k : List ℕ) (es : List Entry) → plain_remove o k es ≡ cond (is_there o k es) (without o k es) es
unfolding plain_remove
remove_is o k [] = without_none o k
remove_is o k (x ∷ xs) =
    by_test (less o x.key k)
    (λ t.
    rw (t, there_later o k x xs t)
    (ap (λ (l : List Entry). x ∷ l) (remove_is o k xs)
    ∙ by_test (is_there o k xs) (λ f. rw f (sym (without_later o x xs k t))) (λ f. rw f)))
    (λ t. by_test (less o k x.key) (λ u. rw (t, there_here o k x xs t, u)) (λ u. rw (t, there_here o k x xs t, u) (sym (without_here o x xs k t))))

pub get_is : (o : ℕ) (k : List ℕ) (es : List Entry) → plain_get o k es ≡ held o k es
unfolding plain_get
get_is o k [] = held_none o k
get_is o k (x ∷ xs) =
    by_test (less o x.key k)
    (λ t. rw t (get_is o k xs ∙ sym (held_later o x xs k t)))
    (λ t. by_test (less o k x.key) (λ u. rw (t, u) (sym (held_off o x xs k t u))) (λ u. rw (t, u) (sym (held_on o x xs k t u))))

later : (x : Entry) (l : List Entry) → 0 < length l → or_later x l ≡ l
unfolding or_later
later x [] h = absurd (omega arith)
later x (y ∷ ys) h = refl

-- the last of the first n of x and what stands after it, where the last of the first n of that is known
one_more : (x : Entry) (xs : List Entry) (n : ℕ) → n ≤ length xs → or_later x (drop (n - 1) (take n xs)) ≡ drop n (x ∷ take n xs)
unfolding or_later
one_more x xs zero h = refl
one_more x xs (suc n) h =
    let z : suc n - 1 ≡ n = omega arith in
    let m : 0 < length (drop n (take (suc n) xs)) = simp (length-drop, length-take) (omega arith) in
    rw z (later x (drop n (take (suc n) xs)) m)

pub floor_is : (o : ℕ) (k : List ℕ) (es : List Entry) → plain_floor o k es ≡ last_not_above o k es
unfolding plain_floor last_not_above not_above
floor_is o k [] = refl
floor_is o k (x ∷ xs) =
    by_test (less o k x.key)
    (λ t. rw t)
    (λ t.
    let z : suc (not_above o k xs) - 1 ≡ not_above o k xs = omega arith in
    rw (t, z) (ap (or_later x) (floor_is o k xs) ∙ one_more x xs (not_above o k xs) (above_le o k xs)))

pub range_is : (o : ℕ) (lo hi : List ℕ) (es : List Entry) → plain_range o lo hi es ≡ between o lo (hi ∷ []) es
unfolding plain_range between ends_above
range_is o lo hi [] = refl
range_is o lo hi (x ∷ xs) =
    by_test (not (less o x.key lo) && less o x.key hi)
    (λ t. rw t (ap (λ (l : List Entry). x ∷ l) (range_is o lo hi xs)))
    (λ t. rw t (range_is o lo hi xs))
