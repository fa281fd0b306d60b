-- Laws of entries put, taken out and looked up in one list: what a get says after an edit, for the key edited and for every other. Assumes nothing.
use Rattle.std.specs.Prelude.{◌≡◌, refl, List, [], ◌∷◌, ◌++◌, true, false, cond, ◌&&◌, not, length}
use Rattle.std.proofs.Common.{sym, ap, ap₂, ◌∙◌}
use Prim.Native.Nat.{ℕ, suc, ◌+◌}
use native.Mathlib.Omega.{arith}
use Rattle.std.proofs.lemmas.Bool.{not-true}
use Rattle.node.specs.Order.{less}
use Rattle.node.specs.Entry.{Entry, Val, rise_after, rising}
use Rattle.node.specs.Find.{val_at, place_of, is_there}
use Rattle.node.specs.Slot.{insert_at, remove_at, revalued, with_value}
use Rattle.tree.specs.laws.base.Node.{by_test, never, and_split, and_left, and_both, Key, less_irrefl, less_total, less_asym, less_trans, less_trans_le_lt, Keys, rise_rising, place_later, place_here, there_later, there_here, there_nil}
use Rattle.tree.specs.Lookup.{held, ends_above, between}
use Rattle.tree.specs.Upsert.{put_entry}

-- ---- one entry at a time

-- a list without the entry at k's place
abbrev pub without : ℕ → List ℕ → List Entry → List Entry
without o k es = remove_at (place_of o k es) es

module _ (o : ℕ) (x : Entry) (xs : List Entry) where
  pub put_later : (e : Entry) → less o x.key e.key ≡ true → put_entry o e (x ∷ xs) ≡ x ∷ put_entry o e xs
  unfolding put_entry insert_at with_value revalued
  put_later e t =
      rw (there_later o e.key x xs t, place_later o e.key x xs t)
      (by_test (is_there o e.key xs) (λ f. rw f) (λ f. rw f))

  -- on the key itself: the key stays, the value is another
  pub put_on : (e : Entry) → less o x.key e.key ≡ false → less o e.key x.key ≡ false
      → put_entry o e (x ∷ xs) ≡ record { key = x.key; value = e.value } ∷ xs
  unfolding put_entry insert_at with_value revalued
  put_on e t u = rw (there_here o e.key x xs t, place_here o e.key x xs t, u)

  pub put_new : (e : Entry) → less o x.key e.key ≡ false → less o e.key x.key ≡ true → put_entry o e (x ∷ xs) ≡ e ∷ x ∷ xs
  unfolding put_entry insert_at with_value revalued
  put_new e t u = rw (there_here o e.key x xs t, place_here o e.key x xs t, u)

  pub without_later : (k : List ℕ) → less o x.key k ≡ true → without o k (x ∷ xs) ≡ x ∷ without o k xs
  unfolding remove_at
  without_later k t =
      let q : suc (place_of o k xs) + 1 ≡ suc (place_of o k xs + 1) = omega arith in
      rw (place_later o k x xs t, q)

  pub without_here : (k : List ℕ) → less o x.key k ≡ false → without o k (x ∷ xs) ≡ xs
  unfolding remove_at
  without_here k t = rw (place_here o k x xs t)

  pub held_later : (k : List ℕ) → less o x.key k ≡ true → held o k (x ∷ xs) ≡ held o k xs
  unfolding held val_at
  held_later k t = rw (there_later o k x xs t, place_later o k x xs t)

  pub held_on : (k : List ℕ) → less o x.key k ≡ false → less o k x.key ≡ false → held o k (x ∷ xs) ≡ x.value ∷ []
  unfolding held val_at
  held_on k t u = rw (there_here o k x xs t, place_here o k x xs t, u)

  pub held_off : (k : List ℕ) → less o x.key k ≡ false → less o k x.key ≡ true → held o k (x ∷ xs) ≡ []
  unfolding held val_at
  held_off k t u = rw (there_here o k x xs t, u)

-- nothing is held by an empty list
pub held_nil : (o : ℕ) (k : List ℕ) → held o k [] ≡ []
unfolding held
held_nil o k = rw (there_nil o k)

pub put_nil : (o : ℕ) (e : Entry) → put_entry o e [] ≡ e ∷ []
unfolding put_entry insert_at place_of
put_nil o e = rw (there_nil o e.key)

-- ---- put

-- the key that was put holds its value
pub put_held : (o : ℕ) (e : Entry) (es : List Entry) → Key o e.key → held o e.key (put_entry o e es) ≡ e.value ∷ []
put_held o e [] h = rw (put_nil o e) (held_on o e [] e.key (less_irrefl o e.key h) (less_irrefl o e.key h))
put_held o e (x ∷ xs) h =
    let i = less_irrefl o e.key h in
    by_test (less o x.key e.key)
    (λ t. rw (put_later o x xs e t) (held_later o x (put_entry o e xs) e.key t ∙ put_held o e xs h))
    (λ t. by_test (less o e.key x.key)
    (λ u. rw (put_new o x xs e t u) (held_on o e (x ∷ xs) e.key i i))
    (λ u. rw (put_on o x xs e t u) (held_on o (record { key = x.key; value = e.value }) xs e.key t u)))

-- every other key holds what it held
pub put_other : (o : ℕ) (e : Entry) (k : List ℕ) (es : List Entry) → Key o e.key → Key o k → Keys o es → (k ≡ e.key → ⊥)
    → held o k (put_entry o e es) ≡ held o k es
put_other o e k [] h g m n =
    rw (put_nil o e, held_nil o k)
    (by_test (less o e.key k)
    (λ t. held_later o e [] k t ∙ held_nil o k)
    (λ t. by_test (less o k e.key)
    (λ u. held_off o e [] k t u)
    (λ u. absurd (n (less_total o k e.key g h u t)))))
put_other o e k (x ∷ xs) h g m n =
    by_test (less o x.key e.key)
    (λ t. rw (put_later o x xs e t)
    (by_test (less o x.key k)
    (λ u. held_later o x (put_entry o e xs) k u ∙ put_other o e k xs h g m.1 n ∙ sym (held_later o x xs k u))
    (λ u. by_test (less o k x.key)
    (λ v. held_off o x (put_entry o e xs) k u v ∙ sym (held_off o x xs k u v))
    (λ v. held_on o x (put_entry o e xs) k u v ∙ sym (held_on o x xs k u v)))))
    (λ t. by_test (less o e.key x.key)
    (λ u. rw (put_new o x xs e t u)
    (by_test (less o e.key k)
    (λ v. held_later o e (x ∷ xs) k v)
    (λ v. by_test (less o k e.key)
    (λ w.
    let a : less o k x.key ≡ true = less_trans o k e.key x.key g h m.0 w u in
    held_off o e (x ∷ xs) k v w ∙ sym (held_off o x xs k (less_asym o k x.key g m.0 a) a))
    (λ w. absurd (n (less_total o k e.key g h w v))))))
    (λ u.
    let y : Entry = record { key = x.key; value = e.value } in
    rw (put_on o x xs e t u)
    (by_test (less o x.key k)
    (λ v. held_later o y xs k v ∙ sym (held_later o x xs k v))
    (λ v. by_test (less o k x.key)
    (λ w. held_off o y xs k v w ∙ sym (held_off o x xs k v w))
    (λ w. absurd (n (less_total o k x.key g m.0 w v ∙ less_total o x.key e.key m.0 h t u)))))))

-- one entry more, unless the key was there
pub put_length : (o : ℕ) (e : Entry) (es : List Entry) → length (put_entry o e es) ≡ length es + cond (is_there o e.key es) 0 1
put_length o e [] = rw (put_nil o e, there_nil o e.key)
put_length o e (x ∷ xs) =
    by_test (less o x.key e.key)
    (λ t. let i = put_length o e xs in rw (put_later o x xs e t, there_later o e.key x xs t) (omega arith))
    (λ t. by_test (less o e.key x.key)
    (λ u. rw (put_new o x xs e t u, there_here o e.key x xs t, u) (omega arith))
    (λ u. rw (put_on o x xs e t u, there_here o e.key x xs t, u) (omega arith)))

-- keys stay keys of the order
pub put_keys : (o : ℕ) (e : Entry) (es : List Entry) → Key o e.key → Keys o es → Keys o (put_entry o e es)
put_keys o e [] h m = rw (put_nil o e) (h, tt)
put_keys o e (x ∷ xs) h m =
    by_test (less o x.key e.key)
    (λ t. rw (put_later o x xs e t) (m.0, put_keys o e xs h m.1))
    (λ t. by_test (less o e.key x.key)
    (λ u. rw (put_new o x xs e t u) (h, m))
    (λ u. rw (put_on o x xs e t u) (m.0, m.1)))

-- keys stay rising
rise_put : (o : ℕ) (j : List ℕ) (e : Entry) (es : List Entry) → Key o e.key → Keys o es → less o j e.key ≡ true → rise_after o j es ≡ true
    → rise_after o j (put_entry o e es) ≡ true
unfolding rise_after
rise_put o j e [] h m l r = rw (put_nil o e, l)
rise_put o j e (x ∷ xs) h m l r =
    let (p, q) = and_split (less o j x.key) (rise_after o x.key xs) r in
    by_test (less o x.key e.key)
    (λ t. rw (put_later o x xs e t) (and_both (less o j x.key) (rise_after o x.key (put_entry o e xs)) p (rise_put o x.key e xs h m.1 t q)))
    (λ t. by_test (less o e.key x.key)
    (λ u. rw (put_new o x xs e t u, l, u) q)
    (λ u. rw (put_on o x xs e t u, p) q))

pub put_rising : (o : ℕ) (e : Entry) (es : List Entry) → Key o e.key → Keys o es → rising o es ≡ true → rising o (put_entry o e es) ≡ true
unfolding rising rise_after
put_rising o e [] h m r = rw (put_nil o e)
put_rising o e (x ∷ xs) h m r =
    by_test (less o x.key e.key)
    (λ t. rw (put_later o x xs e t) (rise_put o x.key e xs h m.1 t r))
    (λ t. by_test (less o e.key x.key)
    (λ u. rw (put_new o x xs e t u, u) r)
    (λ u. rw (put_on o x xs e t u) r))

-- ---- taken out

-- what rises after k does not hold k
pub after_absent : (o : ℕ) (k : List ℕ) (es : List Entry) → Key o k → Keys o es → rise_after o k es ≡ true → is_there o k es ≡ false
unfolding rise_after
after_absent o k [] h m r = there_nil o k
after_absent o k (x ∷ xs) h m r =
    let u : less o k x.key ≡ true = and_left (less o k x.key) (rise_after o x.key xs) r in
    rw (there_here o k x xs (less_asym o k x.key h m.0 u), u)

-- what rises after a key above j does not hold j
pub below_absent : (o : ℕ) (j k : List ℕ) (es : List Entry) → Key o j → Key o k → Keys o es → less o j k ≡ true → rise_after o k es ≡ true
    → held o j es ≡ []
unfolding rise_after
below_absent o j k [] g h m l r = held_nil o j
below_absent o j k (x ∷ xs) g h m l r =
    let u : less o j x.key ≡ true = less_trans o j k x.key g h m.0 l (and_left (less o k x.key) (rise_after o x.key xs) r) in
    held_off o x xs j (less_asym o j x.key g m.0 u) u

-- one entry less
pub without_length : (o : ℕ) (k : List ℕ) (es : List Entry) → is_there o k es ≡ true → length (without o k es) + 1 ≡ length es
without_length o k [] f = never f (there_nil o k)
without_length o k (x ∷ xs) f =
    by_test (less o x.key k)
    (λ t. let i : length (without o k xs) + 1 ≡ length xs = without_length o k xs (sym (there_later o k x xs t) ∙ f) in rw (without_later o x xs k t)
    (omega arith))
    (λ t. rw (without_here o x xs k t) (omega arith))

-- the key is not there any more
pub without_absent : (o : ℕ) (k : List ℕ) (es : List Entry) → Key o k → Keys o es → rising o es ≡ true → is_there o k es ≡ true
    → is_there o k (without o k es) ≡ false
unfolding rising
without_absent o k [] h m r f = never f (there_nil o k)
without_absent o k (x ∷ xs) h m r f =
    by_test (less o x.key k)
    (λ t. rw (without_later o x xs k t) (there_later o k x (without o k xs) t ∙ without_absent o k xs h m.1 (rise_rising o x.key xs r)
    (sym (there_later o k x xs t) ∙ f)))
    (λ t.
    let u : less o k x.key ≡ false = not-true (less o k x.key) (sym (there_here o k x xs t) ∙ f) in
    let q : x.key ≡ k = less_total o x.key k m.0 h t u in
    rw (without_here o x xs k t) (after_absent o k xs h m.1 (rw q at r)))

-- every other key holds what it held
pub without_other : (o : ℕ) (k j : List ℕ) (es : List Entry) → Key o k → Key o j → Keys o es → rising o es ≡ true → is_there o k es ≡ true
    → (j ≡ k → ⊥) → held o j (without o k es) ≡ held o j es
unfolding rising
without_other o k j [] h g m r f n = never f (there_nil o k)
without_other o k j (x ∷ xs) h g m r f n =
    by_test (less o x.key k)
    (λ t. rw (without_later o x xs k t)
    (by_test (less o x.key j)
    (λ u. held_later o x (without o k xs) j u ∙ without_other o k j xs h g m.1 (rise_rising o x.key xs r) (sym (there_later o k x xs t) ∙ f) n
    ∙ sym (held_later o x xs j u))
    (λ u. by_test (less o j x.key)
    (λ v. held_off o x (without o k xs) j u v ∙ sym (held_off o x xs j u v))
    (λ v. held_on o x (without o k xs) j u v ∙ sym (held_on o x xs j u v)))))
    (λ t.
    let u : less o k x.key ≡ false = not-true (less o k x.key) (sym (there_here o k x xs t) ∙ f) in
    let q : x.key ≡ k = less_total o x.key k m.0 h t u in
    rw (without_here o x xs k t)
    (by_test (less o k j)
    (λ v. sym (held_later o x xs j (rw q v)))
    (λ v. by_test (less o j k)
    (λ w. below_absent o j k xs g h m.1 w (rw q at r) ∙ sym (held_off o x xs j (rw q v) (rw q w)))
    (λ w. absurd (n (less_total o j k g h w v))))))

-- ---- there and back

abbrev entry_of : List ℕ → Val → Entry
entry_of k v = record { key = k; value = v }

-- before all that rises after it
put_first : (o : ℕ) (e : Entry) (es : List Entry) → Key o e.key → Keys o es → rise_after o e.key es ≡ true → put_entry o e es ≡ e ∷ es
unfolding rise_after
put_first o e [] h m r = put_nil o e
put_first o e (x ∷ xs) h m r =
    let u : less o e.key x.key ≡ true = and_left (less o e.key x.key) (rise_after o x.key xs) r in
    put_new o x xs e (less_asym o e.key x.key h m.0 u) u

-- a new key put and taken out again leaves the list as it was
pub put_without : (o : ℕ) (e : Entry) (es : List Entry) → Key o e.key → is_there o e.key es ≡ false → without o e.key (put_entry o e es) ≡ es
put_without o e [] h f = rw (put_nil o e) (without_here o e [] e.key (less_irrefl o e.key h))
put_without o e (x ∷ xs) h f =
    by_test (less o x.key e.key)
    (λ t. rw (put_later o x xs e t) (without_later o x (put_entry o e xs) e.key t ∙ ap (λ (z : List Entry). x ∷ z)
    (put_without o e xs h (sym (there_later o e.key x xs t) ∙ f))))
    (λ t. by_test (less o e.key x.key)
    (λ u. rw (put_new o x xs e t u) (without_here o e (x ∷ xs) e.key (less_irrefl o e.key h)))
    (λ u. let v : is_there o e.key (x ∷ xs) ≡ true = rw u at (there_here o e.key x xs t) in never v f))

-- a key taken out and put again with the value that it held leaves the list as it was
pub without_put : (o : ℕ) (e : Entry) (es : List Entry) → Key o e.key → Keys o es → rising o es ≡ true → held o e.key es ≡ e.value ∷ []
    → put_entry o e (without o e.key es) ≡ es
unfolding rising
without_put o e [] h m r q = let p : [] ≡ e.value ∷ [] = sym (held_nil o e.key) ∙ q in let z : ◌≡◌ {A = ℕ} 0 1 = cc in absurd (omega arith)
without_put o e (x ∷ xs) h m r q =
    by_test (less o x.key e.key)
    (λ t. rw (without_later o x xs e.key t)
    (put_later o x (without o e.key xs) e t
    ∙ ap (λ (z : List Entry). x ∷ z) (without_put o e xs h m.1 (rise_rising o x.key xs r) (sym (held_later o x xs e.key t) ∙ q))))
    (λ t. by_test (less o e.key x.key)
    (λ u. let p : [] ≡ e.value ∷ [] = sym (held_off o x xs e.key t u) ∙ q in let z : ◌≡◌ {A = ℕ} 0 1 = cc in absurd (omega arith))
    (λ u.
    let p : x.value ∷ [] ≡ e.value ∷ [] = sym (held_on o x xs e.key t u) ∙ q in
    let v : x.value ≡ e.value = cc in
    let k : x.key ≡ e.key = less_total o x.key e.key m.0 h t u in
    let s : x ≡ e = ap₂ (λ (a : List ℕ) (b : Val). entry_of a b) k v in
    rw (without_here o x xs e.key t) (put_first o e xs h m.1 (rw k at r) ∙ ap (λ (z : Entry). z ∷ xs) (sym s))))

-- ---- range

-- lo not below hi: nothing lies between
pub between_empty : (o : ℕ) (lo hi : List ℕ) (es : List Entry) → Key o lo → Key o hi → Keys o es → less o lo hi ≡ false
    → between o lo (hi ∷ []) es ≡ []
unfolding between ends_above
between_empty o lo hi [] h g m l = refl
between_empty o lo hi (x ∷ xs) h g m l =
    let i = between_empty o lo hi xs h g m.1 l in
    by_test (less o x.key lo)
    (λ t. rw t i)
    (λ t. by_test (less o x.key hi)
    (λ u. never (less_trans_le_lt o lo x.key hi h m.0 g t u) l)
    (λ u. rw (t, u) i))

-- a range of two parts is the two ranges
pub between_append : (o : ℕ) (lo : List ℕ) (hi : List (List ℕ)) (a b : List Entry) → between o lo hi (a ++ b) ≡ between o lo hi a ++ between o lo hi b
unfolding between
between_append o lo hi [] b = refl
between_append o lo hi (x ∷ xs) b =
    by_test (not (less o x.key lo) && ends_above o hi x.key)
    (λ t. rw t (ap (λ (z : List Entry). x ∷ z) (between_append o lo hi xs b)))
    (λ t. rw t (between_append o lo hi xs b))
