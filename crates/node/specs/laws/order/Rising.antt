-- Laws of entries whose keys rise, and of a test that passes on every entry. Assumes nothing.
use Rattle.std.specs.Prelude.{◌≡◌, Bool, ◌&&◌, not, length, take, drop, get_or, Option, Some, None, MatchOption, IsTrue}
use Rattle.std.proofs.Math.Path.{refl, ap}
use Rattle.std.proofs.Common.{sym, ◌∙◌, not-suc-le-zero, le_of_suc-le-suc, arith, take-append-drop}
use mathlib.Core.List.{List, [], ◌∷◌, ◌++◌}
use Rattle.std.proofs.Math.Bool.{true, false}
use Prim.Native.Nat.{ℕ, zero, suc, ◌<◌}
use Rattle.std.proofs.Math.Nat.{suc_inj}
use Rattle.node.specs.Order.{keyed, less}
use Rattle.node.specs.Entry.{Entry, rise_after, rising, every}
use Rattle.node.specs.laws.base.Tests.{by_test, and_split, and_left, and_right, and_both, and-true, and-false}
use Rattle.node.specs.laws.base.Bytes.{Bytes}
use Rattle.node.specs.laws.order.Order.{Key, less_asym, less_trans, less_trans_le}

-- ---- a test on every entry

module _ (t : Entry → Bool) where
  pub every_append : (a b : List Entry) → every t (a ++ b) ≡ every t a && every t b
  unfolding every
  every_append [] b = refl
  every_append (e ∷ es) b = by_test (t e) (λ p. rw p (every_append es b)) (λ p. rw p)

  pub every_left : (a b : List Entry) → every t (a ++ b) ≡ true → every t a ≡ true
  every_left a b h = and_left (every t a) (every t b) (sym (every_append a b) ∙ h)

  pub every_right : (a b : List Entry) → every t (a ++ b) ≡ true → every t b ≡ true
  every_right a b h = and_right (every t a) (every t b) (sym (every_append a b) ∙ h)

  pub every_join : (a b : List Entry) → every t a ≡ true → every t b ≡ true → every t (a ++ b) ≡ true
  every_join a b h k = every_append a b ∙ and_both (every t a) (every t b) h k

  pub every_take : (n : ℕ) (es : List Entry) → every t es ≡ true → every t (take n es) ≡ true
  every_take n es h = every_left (take n es) (drop n es) (ap (every t) (take-append-drop n es) ∙ h)

  pub every_drop : (n : ℕ) (es : List Entry) → every t es ≡ true → every t (drop n es) ≡ true
  every_drop n es h = every_right (take n es) (drop n es) (ap (every t) (take-append-drop n es) ∙ h)

  -- of the entry at an index
  pub every_at : (es : List Entry) (i : ℕ) (d : Entry) → i < length es → every t es ≡ true → t (get_or es i d) ≡ true
  unfolding every
  every_at [] i d h e = absurd (not-suc-le-zero h)
  every_at (x ∷ xs) zero d h e = and_left (t x) (every t xs) e
  every_at (x ∷ xs) (suc i) d h e = every_at xs i d (le_of_suc-le-suc h) (and_right (t x) (every t xs) e)

pub every_and : (t u : Entry → Bool) (es : List Entry) → every (λ e. t e && u e) es ≡ every t es && every u es
unfolding every
every_and t u [] = refl
every_and t u (e ∷ es) =
    by_test (t e)
    (λ p. by_test (u e)
    (λ q. rw (p, q) (every_and t u es))
    (λ q. rw (p, q) (sym (and-false (every t es)))))
    (λ p. rw p)

pub every_imp : (t u : Entry → Bool) (es : List Entry) → ((e : Entry) → t e ≡ true → u e ≡ true) → every t es ≡ true → every u es ≡ true
unfolding every
every_imp t u [] f h = refl
every_imp t u (e ∷ es) f h =
    let (p, q) = and_split (t e) (every t es) h in
    and_both (u e) (every u es) (f e p) (every_imp t u es f q)

-- ---- keys that rise, one after another

-- keys that rise after the key before them, if there is one, decide w
abbrev pub Rises : ℕ → {A : Type 0} → (A → List ℕ) → Option A → List Entry → Bool → Type 0
Rises o now last es w = MatchOption last (rising o es ≡ w) (λ a. rise_after o (now a) es ≡ w)

pub rise_step : (o : ℕ) {A : Type 0} (now : A → List ℕ) (last : Option A) (e : Entry) (es : List Entry) (w c : Bool) (k : List ℕ) → k ≡ e.key
    → Rises o now last (e ∷ es) w → MatchOption last (IsTrue c) (λ a. c ≡ less o (now a) k) → w ≡ c && rise_after o k es
unfolding rising rise_after
rise_step o now None e es w c k ek p q = sym p ∙ rw (q, ek)
rise_step o now (Some a) e es w c k ek p q = sym p ∙ rw (q, ek)

pub rise_end : (o : ℕ) {A : Type 0} (now : A → List ℕ) (last : Option A) (w : Bool) → Rises o now last [] w → true ≡ w
unfolding rising rise_after
rise_end o now None w p = p
rise_end o now (Some a) w p = p

-- ---- entries with keys of an order

abbrev pub Keys : ℕ → List Entry → Type 0
Keys o [] = Unit {0}
Keys o (e ∷ es) = Key o e.key × Keys o es

-- entries whose keys are bytes
abbrev pub KeyBytes : List Entry → Type 0
KeyBytes [] = Unit {0}
KeyBytes (e ∷ es) = Bytes e.key × KeyBytes es

pub keys_known : (o : ℕ) (es : List Entry) → every (λ e. keyed o e.key) es ≡ true → KeyBytes es → Keys o es
unfolding every
keys_known o [] h k = tt
keys_known o (e ∷ es) h k =
    let (p, q) = and_split (keyed o e.key) (every (λ (x : Entry). keyed o x.key) es) h in
    (record { holds = p; bytes = k.0 }, keys_known o es q k.1)

pub keys_keyed : (o : ℕ) (es : List Entry) → Keys o es → every (λ e. keyed o e.key) es ≡ true
unfolding every
keys_keyed o [] h = refl
keys_keyed o (e ∷ es) h = and_both (keyed o e.key) (every (λ (x : Entry). keyed o x.key) es) h.0.holds (keys_keyed o es h.1)

module _ (o : ℕ) where
  pub keys_join : (a b : List Entry) → Keys o a → Keys o b → Keys o (a ++ b)
  keys_join [] b h k = k
  keys_join (e ∷ es) b h k = (h.0, keys_join es b h.1 k)

  pub keys_left : (a b : List Entry) → Keys o (a ++ b) → Keys o a
  keys_left [] b h = tt
  keys_left (e ∷ es) b h = (h.0, keys_left es b h.1)

  pub keys_right : (a b : List Entry) → Keys o (a ++ b) → Keys o b
  keys_right [] b h = h
  keys_right (e ∷ es) b h = keys_right es b h.1

  pub keys_take : (n : ℕ) (es : List Entry) → Keys o es → Keys o (take n es)
  keys_take zero es h = tt
  keys_take (suc n) [] h = tt
  keys_take (suc n) (e ∷ es) h = (h.0, keys_take n es h.1)

  pub keys_drop : (n : ℕ) (es : List Entry) → Keys o es → Keys o (drop n es)
  keys_drop zero es h = h
  keys_drop (suc n) [] h = tt
  keys_drop (suc n) (e ∷ es) h = keys_drop n es h.1

  pub keys_at : (es : List Entry) (i : ℕ) (d : Entry) → i < length es → Keys o es → Key o (get_or es i d).key
  keys_at [] i d h k = absurd (not-suc-le-zero h)
  keys_at (x ∷ xs) zero d h k = k.0
  keys_at (x ∷ xs) (suc i) d h k = keys_at xs i d (le_of_suc-le-suc h) k.1

-- ---- keys that rise: lists put together and parted

-- the last key of k and the entries after it
unfoldable pub last_key : List ℕ → List Entry → List ℕ
last_key k [] = k
last_key k (e ∷ es) = last_key e.key es

module _ (o : ℕ) where
  pub rise_append : (k : List ℕ) (a b : List Entry) → rise_after o k (a ++ b) ≡ rise_after o k a && rise_after o (last_key k a) b
  unfolding rise_after last_key
  rise_append k [] b = refl
  rise_append k (e ∷ es) b = by_test (less o k e.key) (λ p. rw p (rise_append e.key es b)) (λ p. rw p)

  pub rise_rising : (k : List ℕ) (es : List Entry) → rise_after o k es ≡ true → rising o es ≡ true
  unfolding rise_after rising
  rise_rising k [] h = refl
  rise_rising k (e ∷ es) h = and_right (less o k e.key) (rise_after o e.key es) h

  pub rising_left : (a b : List Entry) → rising o (a ++ b) ≡ true → rising o a ≡ true
  unfolding rising
  rising_left [] b h = refl
  rising_left (e ∷ es) b h = and_left (rise_after o e.key es) (rise_after o (last_key e.key es) b) (sym (rise_append e.key es b) ∙ h)

  pub rising_right : (a b : List Entry) → rising o (a ++ b) ≡ true → rising o b ≡ true
  unfolding rising
  rising_right [] b h = h
  rising_right (e ∷ es) b h =
      rise_rising (last_key e.key es) b (and_right (rise_after o e.key es) (rise_after o (last_key e.key es) b)
      (sym (rise_append e.key es b) ∙ h))

  pub rising_take : (n : ℕ) (es : List Entry) → rising o es ≡ true → rising o (take n es) ≡ true
  rising_take n es h = rising_left (take n es) (drop n es) (ap (rising o) (take-append-drop n es) ∙ h)

  pub rising_drop : (n : ℕ) (es : List Entry) → rising o es ≡ true → rising o (drop n es) ≡ true
  rising_drop n es h = rising_right (take n es) (drop n es) (ap (rising o) (take-append-drop n es) ∙ h)

  -- two lists, the first's last key below the second's first
  pub rising_join : (x y : Entry) (a b : List Entry) → rising o (x ∷ a) ≡ true → rising o (y ∷ b) ≡ true → less o (last_key x.key a) y.key ≡ true
      → rising o ((x ∷ a) ++ y ∷ b) ≡ true
  unfolding rising rise_after
  rising_join x y a b h k l =
      rise_append x.key a (y ∷ b)
      ∙ and_both (rise_after o x.key a) (rise_after o (last_key x.key a) (y ∷ b)) h
      (and_both (less o (last_key x.key a) y.key) (rise_after o y.key b) l k)

  -- a value replaced: the keys are the same
  rise_replace : (k : List ℕ) (a : List Entry) (e f : Entry) (b : List Entry) → e.key ≡ f.key → rise_after o k (a ++ e ∷ b) ≡ rise_after o k
      (a ++ f ∷ b)
  unfolding rise_after
  rise_replace k [] e f b q = ap (λ (z : List ℕ). less o k z && rise_after o z b) q
  rise_replace k (x ∷ xs) e f b q = ap (λ (z : Bool). less o k x.key && z) (rise_replace x.key xs e f b q)

  pub rising_replace : (a : List Entry) (e f : Entry) (b : List Entry) → e.key ≡ f.key → rising o (a ++ e ∷ b) ≡ rising o (a ++ f ∷ b)
  unfolding rising
  rising_replace [] e f b q = ap (λ (z : List ℕ). rise_after o z b) q
  rising_replace (x ∷ xs) e f b q = rise_replace x.key xs e f b q

  -- an entry inserted
  rise_change : (k l : List ℕ) (es : List Entry) → rise_after o k es ≡ true → every (λ x. less o l x.key) es ≡ true → rise_after o l es ≡ true
  unfolding rise_after every
  rise_change k l [] h m = refl
  rise_change k l (e ∷ es) h m =
      and_both (less o l e.key) (rise_after o e.key es)
      (and_left (less o l e.key) (every (λ (x : Entry). less o l x.key) es) m)
      (and_right (less o k e.key) (rise_after o e.key es) h)

  rise_insert : (k : List ℕ) (a : List Entry) (e : Entry) (b : List Entry) → rise_after o k (a ++ b) ≡ true → less o k e.key ≡ true
      → every (λ x. less o x.key e.key) a ≡ true → every (λ x. less o e.key x.key) b ≡ true → rise_after o k (a ++ e ∷ b) ≡ true
  unfolding rise_after every
  rise_insert k [] e b h l m n = and_both (less o k e.key) (rise_after o e.key b) l (rise_change k e.key b h n)
  rise_insert k (x ∷ xs) e b h l m n =
      let (p, q) = and_split (less o k x.key) (rise_after o x.key (xs ++ b)) h in
      let (r, s) = and_split (less o x.key e.key) (every (λ (y : Entry). less o y.key e.key) xs) m in
      and_both (less o k x.key) (rise_after o x.key (xs ++ e ∷ b)) p (rise_insert x.key xs e b q r s n)

  pub rising_insert : (a : List Entry) (e : Entry) (b : List Entry) → rising o (a ++ b) ≡ true
      → every (λ x. less o x.key e.key) a ≡ true → every (λ x. less o e.key x.key) b ≡ true → rising o (a ++ e ∷ b) ≡ true
  unfolding rising rise_after every
  rising_insert [] e [] h m n = refl
  rising_insert [] e (y ∷ ys) h m n =
      and_both (less o e.key y.key) (rise_after o y.key ys)
      (and_left (less o e.key y.key) (every (λ (x : Entry). less o e.key x.key) ys) n) h
  rising_insert (x ∷ xs) e b h m n =
      let (r, s) = and_split (less o x.key e.key) (every (λ (y : Entry). less o y.key e.key) xs) m in
      rise_insert x.key xs e b h r s n

-- ---- keys that rise, all of them keys of the order

module _ (o : ℕ) where
  -- what rises after k rises after what is below k
  rise_from : (j k : List ℕ) (es : List Entry) → Key o j → Key o k → Keys o es → less o j k ≡ true → rise_after o k es ≡ true
      → rise_after o j es ≡ true
  unfolding rise_after
  rise_from j k [] h i m p q = refl
  rise_from j k (y ∷ ys) h i m p q =
      let (u, v) = and_split (less o k y.key) (rise_after o y.key ys) q in
      and_both (less o j y.key) (rise_after o y.key ys) (less_trans o j k y.key h i m.0 p u) v

  -- all that comes after k is above it
  pub rise_above : (k : List ℕ) (es : List Entry) → Key o k → Keys o es → rise_after o k es ≡ true → every (λ x. less o k x.key) es ≡ true
  unfolding rise_after every
  rise_above k [] h m r = refl
  rise_above k (e ∷ es) h m r =
      let (p, q) = and_split (less o k e.key) (rise_after o e.key es) r in
      and_both (less o k e.key) (every (λ (x : Entry). less o k x.key) es) p
      (rise_above k es h m.1 (rise_from k e.key es h m.0 m.1 p q))

  rise_reach : (k : List ℕ) (a : List Entry) (e : Entry) (b : List Entry) → Key o k → Keys o (a ++ e ∷ b) → rise_after o k (a ++ e ∷ b) ≡ true
      → less o k e.key ≡ true
  unfolding rise_after
  rise_reach k [] e b h m r = and_left (less o k e.key) (rise_after o e.key b) r
  rise_reach k (x ∷ xs) e b h m r =
      let (p, q) = and_split (less o k x.key) (rise_after o x.key (xs ++ e ∷ b)) r in
      rise_reach k xs e b h m.1 (rise_from k x.key (xs ++ e ∷ b) h m.0 m.1 p q)

  -- all that comes before an entry is below its key
  pub rising_before : (a : List Entry) (e : Entry) (b : List Entry) → Keys o (a ++ e ∷ b) → rising o (a ++ e ∷ b) ≡ true
      → every (λ x. less o x.key e.key) a ≡ true
  unfolding rising every
  rising_before [] e b m r = refl
  rising_before (x ∷ xs) e b m r =
      and_both (less o x.key e.key) (every (λ (y : Entry). less o y.key e.key) xs)
      (rise_reach x.key xs e b m.0 m.1 r)
      (rising_before xs e b m.1 (rise_rising o x.key (xs ++ e ∷ b) r))

  -- all that comes after an entry is above its key
  pub rising_after : (a : List Entry) (e : Entry) (b : List Entry) → Keys o (a ++ e ∷ b) → rising o (a ++ e ∷ b) ≡ true
      → every (λ x. less o e.key x.key) b ≡ true
  unfolding rising
  rising_after a e b m r =
      let k : Keys o (e ∷ b) = keys_right o a (e ∷ b) m in
      rise_above e.key b k.0 k.1 (rising_right o a (e ∷ b) r)

  -- an entry taken out
  rise_remove : (k : List ℕ) (a : List Entry) (e : Entry) (b : List Entry) → Key o k → Keys o (a ++ e ∷ b) → rise_after o k (a ++ e ∷ b) ≡ true
      → rise_after o k (a ++ b) ≡ true
  unfolding rise_after
  rise_remove k [] e b h m r =
      let (p, q) = and_split (less o k e.key) (rise_after o e.key b) r in
      rise_from k e.key b h m.0 m.1 p q
  rise_remove k (x ∷ xs) e b h m r =
      let (p, q) = and_split (less o k x.key) (rise_after o x.key (xs ++ e ∷ b)) r in
      and_both (less o k x.key) (rise_after o x.key (xs ++ b)) p (rise_remove x.key xs e b m.0 m.1 q)

  pub rising_remove : (a : List Entry) (e : Entry) (b : List Entry) → Keys o (a ++ e ∷ b) → rising o (a ++ e ∷ b) ≡ true → rising o (a ++ b) ≡ true
  unfolding rising
  rising_remove [] e b m r = rise_rising o e.key b r
  rising_remove (x ∷ xs) e b m r = rise_remove x.key xs e b m.0 m.1 r

  -- a key set to another that is above all before it and below all after it
  pub rising_set : (a : List Entry) (e f : Entry) (b : List Entry) → Keys o (a ++ e ∷ b) → rising o (a ++ e ∷ b) ≡ true
      → every (λ x. less o x.key f.key) a ≡ true → every (λ x. less o f.key x.key) b ≡ true → rising o (a ++ f ∷ b) ≡ true
  rising_set a e f b m r h k = rising_insert o a f b (rising_remove a e b m r) h k

-- ---- bounds: the first key decides for the lower, the last for the upper

module _ (o : ℕ) (bound : List ℕ) (kb : Key o bound) where
  rise_lower : (k : List ℕ) (es : List Entry) → Key o k → Keys o es → rise_after o k es ≡ true → less o k bound ≡ false
      → every (λ (x : Entry). not (less o x.key bound)) es ≡ true
  unfolding rise_after every
  rise_lower k [] h m r t = refl
  rise_lower k (e ∷ es) h m r t =
      let (p, q) = and_split (less o k e.key) (rise_after o e.key es) r in
      let u : less o e.key bound ≡ false = less_trans_le o bound k e.key kb h m.0 t (less_asym o k e.key h m.0 p) in
      rw u (rise_lower e.key es m.0 m.1 q u)

  -- every key is not below a lower bound if the first is not
  pub rising_lower : (e : Entry) (es : List Entry) → Keys o (e ∷ es) → rising o (e ∷ es) ≡ true → every (λ (x : Entry). not (less o x.key bound))
      (e ∷ es) ≡ not (less o e.key bound)
  unfolding rising every
  rising_lower e es m r =
      by_test (less o e.key bound)
      (λ t. rw t)
      (λ t. rw t (rise_lower e.key es m.0 m.1 r t))

  rise_upper : (k : List ℕ) (es : List Entry) → Key o k → Keys o es → rise_after o k es ≡ true → less o k bound
      && every (λ (x : Entry). less o x.key bound) es ≡ less o (last_key k es) bound
  unfolding rise_after every last_key
  rise_upper k [] h m r = and-true (less o k bound)
  rise_upper k (e ∷ es) h m r =
      let (p, q) = and_split (less o k e.key) (rise_after o e.key es) r in
      let i : less o e.key bound && every (λ (x : Entry). less o x.key bound) es ≡ less o (last_key e.key es) bound = rise_upper e.key es
      m.0 m.1 q in
      ap (λ (z : Bool). less o k bound && z) i
      ∙ by_test (less o (last_key e.key es) bound)
      (λ t. let u : less o e.key bound ≡ true = and_left (less o e.key bound) (every (λ (x : Entry). less o x.key bound) es) (i ∙ t) in
      rw (t, less_trans o k e.key bound h m.0 kb p u))
      (λ t. rw t (and-false (less o k bound)))

  -- every key is below an upper bound if the last is
  pub rising_upper : (e : Entry) (es : List Entry) → Keys o (e ∷ es) → rising o (e ∷ es) ≡ true → every (λ (x : Entry). less o x.key bound)
      (e ∷ es) ≡ less o (last_key e.key es) bound
  unfolding rising every
  rising_upper e es m r = rise_upper e.key es m.0 m.1 r

-- ---- the last key

pub last_append : (k : List ℕ) (a : List Entry) (e : Entry) → last_key k (a ++ e ∷ []) ≡ e.key
unfolding last_key
last_append k [] e = refl
last_append k (x ∷ xs) e = last_append x.key xs e

pub last_at_lem : (k : List ℕ) (es : List Entry) (n : ℕ) (d : Entry) → length es ≡ suc n → last_key k es ≡ (get_or es n d).key
unfolding last_key
last_at_lem k [] n d h = absurd (omega arith)
last_at_lem k (x ∷ []) zero d h = refl
last_at_lem k (x ∷ y ∷ ys) zero d h = absurd (omega arith)
last_at_lem k (x ∷ xs) (suc n) d h = last_at_lem x.key xs n d (suc_inj h)

-- a key that rises after all entries: a node read entry by entry
pub rising_snoc : (o : ℕ) (e : Entry) (es : List Entry) (f : Entry) → rising o (e ∷ es ++ f ∷ []) ≡ rising o (e ∷ es) && less o (last_key e.key es)
    f.key
unfolding rising rise_after
rising_snoc o e es f = rise_append o e.key es (f ∷ []) ∙ ap (λ (z : Bool). rise_after o e.key es && z)
    (and-true (less o (last_key e.key es) f.key))
