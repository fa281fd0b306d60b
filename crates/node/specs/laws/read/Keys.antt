-- Laws of a node's keys on disk: entry by entry, in order, within bounds. Assumes nothing.
use Rattle.std.specs.Prelude.{◌≡◌, refl, Bool, ◌&&◌, ◌||◌, not, Option, Some, None, is_none, MatchOption, IsTrue}
use Rattle.std.specs.List.{range_with_len, list_all}
use Rattle.std.proofs.Math.Path.{sym, ap, ap₂}
use Rattle.std.proofs.Common.{◌∙◌, add-zero, zero-add, not-suc-le-zero, le_of_suc-le-suc}
use mathlib.Core.List.{List, [], ◌∷◌}
use Rattle.std.proofs.Math.Bool.{true, false}
use Prim.Native.Nat.{ℕ, zero, suc, ◌+◌, ◌-◌, ◌≤◌, ◌<◌}
use Rattle.std.proofs.Math.Numerals.{add-one}
use native.Mathlib.Omega.{arith}
use Rattle.std.proofs.Math.ListN.{length, take, drop}
use Rattle.std.specs.Borrow.{Bor}
use borrow.Author.Tests.{eq-eqb, ne_eqb, eqb-false}
use Rattle.seal.specs.Bytes.{window, u64_at}
use Rattle.node.specs.laws.base.Tests.{and_left, and_right, and-false}
use Rattle.node.specs.laws.base.Bytes.{Bytes, bytes_window}
use Rattle.node.specs.Order.{less, keyed, keyed_length}
use Rattle.node.specs.laws.order.Order.{key_known, none_below}
use Rattle.node.specs.Entry.{Entry, leaf, disk, rise_after, rising, every}
use Rattle.node.specs.laws.order.Rising.{every_and, Rises, rise_step, rise_end, Keys, KeyBytes, keys_known, last_key, rising_lower, rising_upper}
use Rattle.node.specs.Slot.{child_means, value_means}
use Rattle.node.specs.Read.{span_at, is_ghost, span_holds, spans_hold, value_at, entry_at, entries_from, in_bounds, keys_rise, keys_within}
use Rattle.node.specs.internal.ReadSteps.{Sound}
use Rattle.node.specs.laws.read.Read.{held_key, held_start, held_end, held_no_ghost, held_eight, part_window}
use Rattle.node.specs.declared.read.Node.{Node}
use Rattle.node.specs.declared.read.Span.{Span}
use Rattle.node.specs.Place.{Place, lent_key}
use Rattle.node.specs.declared.val.Val.TheVariants.{Ghost, Leaf, Child}
use Rattle.node.specs.declared.val.Child.TheVariants.{Disk}

-- ---- one of several entries

pub spans_held : (v : Node) (b : List ℕ) (i n k : ℕ) → spans_hold v b i n ≡ true → k < n → span_holds v (length b) (span_at v b (i + k)) ≡ true
unfolding spans_hold
spans_held v b i zero k h lt = absurd (not-suc-le-zero lt)
spans_held v b i (suc n) zero h lt = rw add-zero (and_left (span_holds v (length b) (span_at v b i)) (spans_hold v b (suc i) n) h)
spans_held v b i (suc n) (suc k) h lt =
    let e : i + suc k ≡ suc i + k = omega arith in
    rw e (spans_held v b (suc i) n k (and_right (span_holds v (length b) (span_at v b i)) (spans_hold v b (suc i) n) h) (le_of_suc-le-suc lt))

pub every_from : (t : Entry → Bool) (v : Node) (b : List ℕ) (i n k : ℕ) → every t (entries_from v b i n) ≡ true → k < n
    → t (entry_at v b (i + k)) ≡ true
unfolding every entries_from
every_from t v b i zero k h lt = absurd (not-suc-le-zero lt)
every_from t v b i (suc n) zero h lt = rw add-zero (and_left (t (entry_at v b i)) (every t (entries_from v b (suc i) n)) h)
every_from t v b i (suc n) (suc k) h lt =
    let e : i + suc k ≡ suc i + k = omega arith in
    rw e (every_from t v b (suc i) n k (and_right (t (entry_at v b i)) (every t (entries_from v b (suc i) n)) h) (le_of_suc-le-suc lt))

pub last_from_lem : (v : Node) (b : List ℕ) (k : List ℕ) (i m : ℕ) → last_key k (entries_from v b i (suc m)) ≡ (entry_at v b (i + m)).key
unfolding last_key entries_from
last_from_lem v b k i zero = rw add-zero
last_from_lem v b k i (suc m) =
    let e : i + suc m ≡ suc i + m = omega arith in
    rw e (last_from_lem v b (entry_at v b i).key (suc i) m)

pub key_bytes : (v : Node) (b : List ℕ) (i n : ℕ) → Bytes b → KeyBytes (entries_from v b i n)
unfolding entries_from entry_at
key_bytes v b i zero h = tt
key_bytes v b i (suc n) h = (bytes_window (span_at v b i).key (span_at v b i).klen b h, key_bytes v b (suc i) n h)

-- ---- an entry of a node that was read

module _ (v : Node) (b : List ℕ) (i : ℕ) (s : Span) (h : Sound v b) (lt : i < v.nkeys) (e : s ≡ span_at v b i) where
  pub sound_span : span_holds v (length b) s ≡ true
  sound_span = rw (e, ← zero-add i) (spans_held v b 0 v.nkeys i h.held lt)

  pub sound_key : s.key + s.klen ≤ length b
  sound_key = held_key v (length b) s sound_span

pub key_of : (v : Node) (b : List ℕ) (i : ℕ) (s : Span) → s ≡ span_at v b i → window s.key s.klen b ≡ (entry_at v b i).key
unfolding entry_at
key_of v b i s e = ap (λ (q : Span). window q.key q.klen b) e

-- ---- 9: keys that the order can hold, and that rise

module _ (o : ℕ) (v : Node) (b : List ℕ) (n : ℕ) where
  abbrev es : List Entry
  es = entries_from v b 0 n

  abbrev K : Entry → Bool
  K e = keyed o e.key

  -- at entry i: the keys before it are the order's
  module _ (i : ℕ) (hold : every K es ≡ every K (entries_from v b i (n - i))) where
    module _ (lt : i < n) (k : List ℕ) (ek : k ≡ (entry_at v b i).key) where
      left : entries_from v b i (n - i) ≡ entry_at v b i ∷ entries_from v b (i + 1) (n - (i + 1))
      unfolding entries_from
      left =
          let m : n - i ≡ suc (n - suc i) = omega arith in
          ap (entries_from v b i) m ∙ rw add-one

      module _ (r : Bool) (er : r ≡ keyed_length o (length k)) where
        every_is : every K es ≡ r && every K (entries_from v b (i + 1) (n - (i + 1)))
        unfolding keyed every
        every_is =
            let f : K (entry_at v b i) ≡ r = sym (er ∙ ap (λ (x : List ℕ). keyed_length o (length x)) ek) in
            hold ∙ ap (every K) left ∙ ap (λ (x : Bool). x && every K (entries_from v b (i + 1) (n - (i + 1)))) f

        pub rise_unkeyed : r ≡ false → false ≡ keys_rise o es
        unfolding keys_rise
        rise_unkeyed h = rw (every_is, h)

        pub rise_keyed : r ≡ true → every K es ≡ every K (entries_from v b (i + 1) (n - (i + 1)))
        rise_keyed h = every_is ∙ rw h

      -- its key is above the one before it, `last`, or not
      module _ {A : Type 0} (now : A → List ℕ) (last : Option A) (rise : Rises o now last (entries_from v b i (n - i)) (rising o es)) (c : Bool)
          (ec : MatchOption last (IsTrue c) (λ a. c ≡ less o (now a) k)) where
        rise_is : rising o es ≡ c && rise_after o k (entries_from v b (i + 1) (n - (i + 1)))
        rise_is = rise_step o now last (entry_at v b i) (entries_from v b (i + 1) (n - (i + 1))) (rising o es) c k ek (rw (← left) rise) ec

        pub rise_falls : c ≡ false → false ≡ keys_rise o es
        unfolding keys_rise
        rise_falls h = rw (rise_is, h, and-false)

        pub rise_turn : c ≡ true → rise_after o k (entries_from v b (i + 1) (n - (i + 1))) ≡ rising o es
        rise_turn h = sym (rise_is ∙ rw h)

    pub rise_done : {A : Type 0} (now : A → List ℕ) (last : Option A) → Rises o now last (entries_from v b i (n - i)) (rising o es) → n ≤ i
        → true ≡ keys_rise o es
    unfolding keys_rise entries_from every
    rise_done now last rise h =
        let m : n - i ≡ 0 = omega arith in
        let f : every K es ≡ true = hold ∙ rw m in
        let g : true ≡ rising o es = rise_end o now last (rising o es) (rw m at rise) in
        rw (f, ← g)

-- ---- 9: keys within the bounds

module _ (o : ℕ) (p : Place) (lower upper : List ℕ) (v : Node) (b : List ℕ) where
  abbrev all : ℕ → ℕ → Bool
  all i m = keys_within o p lower upper (entries_from v b i m)

  -- each of the entries from entry i on, one after another
  pub within_each : (i n : ℕ) → list_all (λ (j : ℕ). in_bounds o p lower upper (entry_at v b j).key) (range_with_len i n) ≡ all i n
  unfolding keys_within entries_from every
  within_each i zero = refl
  within_each i (suc n) = ap (λ (x : Bool). in_bounds o p lower upper (entry_at v b i).key && x) (rw add-one (within_each (suc i) n))

  pub within_none : v.nkeys ≡ 0 → true ≡ all 0 v.nkeys
  unfolding keys_within entries_from every
  within_none e = rw e

  pub within_first : (k : List ℕ) (r : Bool) → (v.nkeys ≡ 0 → ⊥) → k ≡ (entry_at v b 0).key → r ≡ in_bounds o p lower upper k → r ≡ false
      → r ≡ all 0 v.nkeys
  unfolding keys_within entries_from every
  within_first k r n e q h =
      let m : v.nkeys ≡ suc (v.nkeys - 1) = omega arith in
      let f : in_bounds o p lower upper (entry_at v b 0).key ≡ false = ap (in_bounds o p lower upper) (sym e) ∙ sym q ∙ h in
      h ∙ sym (ap (all 0) m ∙ rw f)

-- every key of those that rise is above a bound if the first is, and below one if the last is
every_all : (es : List Entry) → every (λ (x : Entry). true) es ≡ true
unfolding every
every_all [] = refl
every_all (e ∷ es) = every_all es

least_all : (o : ℕ) (es : List Entry) → every (λ (x : Entry). not (less o x.key [])) es ≡ true
unfolding every
least_all o [] = refl
least_all o (e ∷ es) = rw (none_below o e.key) (least_all o es)

either : (s t : Bool) → t ≡ true → (s || t) ≡ true
either true t h = refl
either false t h = h

module _ (o : ℕ) (e : Entry) (es : List Entry) (ks : Keys o (e ∷ es)) (up : rising o (e ∷ es) ≡ true) where
  -- `t`: there is no such bound, as a root has no lower one
  pub lower_first : (t : Bool) (lo : Option (Bor (List ℕ))) → Bytes (lent_key lo) → (t || (is_none lo || keyed o (lent_key lo))) ≡ true
      → every (λ (x : Entry). t || not (less o x.key (lent_key lo))) (e ∷ es) ≡ (t || not (less o e.key (lent_key lo)))
  lower_first true lo bb k = every_all (e ∷ es)
  lower_first false None bb k = least_all o (e ∷ es) ∙ sym (rw (none_below o e.key))
  lower_first false (Some x) bb k = rising_lower o x.now (key_known o x.now k bb) e es ks up

  pub upper_last : (bound : List ℕ) → Bytes bound → (t : Bool) → (t || keyed o bound) ≡ true
      → every (λ (x : Entry). t || less o x.key bound) (e ∷ es) ≡ (t || less o (last_key e.key es) bound)
  upper_last bound bb true k = every_all (e ∷ es)
  upper_last bound bb false k = rising_upper o bound (key_known o bound k bb) e es ks up

module _ (o : ℕ) (p : Place) (lo : Option (Bor (List ℕ))) (upper : List ℕ) (v : Node) (b : List ℕ) (bb : Bytes b) (bl : Bytes (lent_key lo))
    (bu : Bytes upper) where
  abbrev lower : List ℕ
  lower = lent_key lo

  abbrev is_above : List ℕ → Bool
  is_above k = p.root || not (less o k lower)

  abbrev is_below : List ℕ → Bool
  is_below k = not p.bounded || less o k upper

  module _ (n : ℕ) (h : keys_rise o (entries_from v b 0 (suc n)) ≡ true) where
    keys_of : Keys o (entries_from v b 0 (suc n))
    unfolding keys_rise
    keys_of =
        let es : List Entry = entries_from v b 0 (suc n) in
        keys_known o es (and_left (every (λ (x : Entry). keyed o x.key) es) (rising o es) h) (key_bytes v b 0 (suc n) bb)

    rising_of : rising o (entries_from v b 0 (suc n)) ≡ true
    unfolding keys_rise
    rising_of = and_right (every (λ (x : Entry). keyed o x.key) (entries_from v b 0 (suc n))) (rising o (entries_from v b 0 (suc n))) h

    above_all : (p.root || (is_none lo || keyed o (lent_key lo))) ≡ true
        → every (λ (x : Entry). is_above x.key) (entries_from v b 0 (suc n)) ≡ is_above (entry_at v b 0).key
    unfolding entries_from
    above_all u = lower_first o (entry_at v b 0) (entries_from v b 1 n) keys_of rising_of p.root lo bl u

    below_all : (not p.bounded || keyed o upper) ≡ true → every (λ (x : Entry). is_below x.key) (entries_from v b 0 (suc n)) ≡ is_below
        (entry_at v b n).key
    unfolding entries_from last_key
    below_all u =
        let l : last_key (entry_at v b 0).key (entries_from v b 1 n) ≡ (entry_at v b n).key = last_from_lem v b [] 0 n
        ∙ ap (λ (q : ℕ). (entry_at v b q).key)
        (zero-add n) in
        upper_last o (entry_at v b 0) (entries_from v b 1 n) keys_of rising_of upper bu (not p.bounded) u ∙ ap is_below l

    -- of n + 1 keys that rise
    ends_all : (p.root || (is_none lo || keyed o (lent_key lo))) ≡ true → (not p.bounded || keyed o upper) ≡ true
        → keys_within o p lower upper (entries_from v b 0 (suc n)) ≡ (is_above (entry_at v b 0).key && is_below (entry_at v b n).key)
    unfolding keys_within in_bounds
    ends_all u t =
        every_and (λ (x : Entry). is_above x.key) (λ (x : Entry). is_below x.key) (entries_from v b 0 (suc n))
        ∙ ap₂ (λ (x y : Bool). x && y) (above_all u) (below_all t)

    -- the first and the last speak for all
    ends : (p.root || (is_none lo || keyed o (lent_key lo))) ≡ true → (not p.bounded || keyed o upper) ≡ true
        → in_bounds o p lower upper (entry_at v b 0).key ≡ true → in_bounds o p lower upper (entry_at v b n).key ≡ keys_within o p lower upper
        (entries_from v b 0 (suc n))
    unfolding in_bounds
    ends u t f =
        let a : is_above (entry_at v b 0).key ≡ true = and_left (is_above (entry_at v b 0).key) (is_below (entry_at v b 0).key) f in
        let z : is_above (entry_at v b n).key ≡ true =
        ap (λ (q : ℕ). is_above (entry_at v b q).key) (sym (zero-add n)) ∙ every_from (λ (x : Entry). is_above x.key) v b 0 (suc n) n
        (above_all u ∙ a) (omega arith) in
        ap (λ (q : Bool). q && is_below (entry_at v b n).key) (z ∙ sym a) ∙ sym (ends_all u t)

  -- a root needs no lower bound that is a key
  pub within_ends : (u t : Bool) (x y : List ℕ) (r q : Bool) → (v.nkeys ≡ 0 → ⊥) → keys_rise o (entries_from v b 0 v.nkeys) ≡ true
      → u ≡ (p.root || (is_none lo || keyed o (lent_key lo))) → u ≡ true → t ≡ (not p.bounded || keyed o upper) → t ≡ true
      → x ≡ (entry_at v b 0).key → r ≡ in_bounds o p lower upper x → r ≡ true
      → y ≡ (entry_at v b (v.nkeys - 1)).key → q ≡ in_bounds o p lower upper y
      → q ≡ keys_within o p lower upper (entries_from v b 0 v.nkeys)
  within_ends u t x y r q some h eu nu et nt ex er nr ey eq =
      let n : ℕ = v.nkeys - 1 in
      let m : v.nkeys ≡ suc n = omega arith in
      let first : in_bounds o p lower upper (entry_at v b 0).key ≡ true = ap (in_bounds o p lower upper) (sym ex) ∙ sym er ∙ nr in
      let h' : keys_rise o (entries_from v b 0 (suc n)) ≡ true = ap (λ (z : ℕ). keys_rise o (entries_from v b 0 z)) (sym m) ∙ h in
      eq ∙ ap (in_bounds o p lower upper) ey
      ∙ ends n h' (sym eu ∙ nu) (sym et ∙ nt) first
      ∙ ap (λ (z : ℕ). keys_within o p lower upper (entries_from v b 0 z)) (sym m)

  -- the same of one test of both bounds, for a root too
  pub within_ends_lent : (u : Bool) (x y : List ℕ) (r q : Bool) → (v.nkeys ≡ 0 → ⊥) → keys_rise o (entries_from v b 0 v.nkeys) ≡ true
      → u ≡ ((is_none lo || keyed o (lent_key lo)) && (not p.bounded || keyed o upper)) → u ≡ true
      → x ≡ (entry_at v b 0).key → r ≡ in_bounds o p lower upper x → r ≡ true
      → y ≡ (entry_at v b (v.nkeys - 1)).key → q ≡ in_bounds o p lower upper y
      → q ≡ keys_within o p lower upper (entries_from v b 0 v.nkeys)
  within_ends_lent u x y r q some h eu nu =
      let a : (is_none lo || keyed o (lent_key lo)) ≡ true =
      and_left (is_none lo || keyed o (lent_key lo)) (not p.bounded || keyed o upper) (sym eu ∙ nu) in
      let z : (not p.bounded || keyed o upper) ≡ true =
      and_right (is_none lo || keyed o (lent_key lo)) (not p.bounded || keyed o upper) (sym eu ∙ nu) in
      within_ends true true x y r q some h (sym (either p.root (is_none lo || keyed o (lent_key lo)) a)) refl (sym z) refl

-- ---- a value in place

module _ (v : Node) (b : List ℕ) (i : ℕ) (s : Span) (e : s ≡ span_at v b i) where
  pub value_of_lem : value_at v b s ≡ (entry_at v b i).value
  unfolding entry_at
  value_of_lem = ap (value_at v b) e

  pub place_ghost : is_ghost s ≡ true → value_means Ghost ≡ (entry_at v b i).value
  unfolding value_means child_means value_at
  place_ghost g = sym (sym value_of_lem ∙ rw g)

  pub place_leaf : (x : Bor (List ℕ)) → x.now ≡ take (v.vals - s.voff + s.vlen - (v.vals - s.voff)) (drop (v.vals - s.voff) b)
      → is_ghost s ≡ false → v.level ≡ 0 → value_means (Leaf x) ≡ (entry_at v b i).value
  unfolding value_means value_at
  place_leaf x p g h = ap leaf (p ∙ part_window b (v.vals - s.voff) s.vlen) ∙ sym (sym value_of_lem ∙ rw (g, eq-eqb v.level 0 h))

  pub disk_of : (r : ℕ) → (s.voff ≡ 65535 → ⊥) → (v.level ≡ 0 → ⊥) → r ≡ u64_at b (v.vals - s.voff) → (entry_at v b i).value ≡ disk r
  unfolding value_at is_ghost
  disk_of r n h er = sym value_of_lem ∙ rw (ne_eqb s.voff 65535 n, ne_eqb v.level 0 h, er)

  pub place_child : (r : ℕ) → is_ghost s ≡ false → (v.level ≡ 0 → ⊥) → r ≡ u64_at b (v.vals - s.voff)
      → value_means (Child (Disk r)) ≡ (entry_at v b i).value
  unfolding value_means child_means value_at
  place_child r g h er = sym (sym value_of_lem ∙ rw (g, ne_eqb v.level 0 h, er))

  module _ (h : Sound v b) (lt : i < v.nkeys) where
    pub value_start : is_ghost s ≡ false → s.voff ≤ v.vals
    unfolding is_ghost
    value_start g = held_start v (length b) s (sound_span v b i s h lt e) (eqb-false s.voff 65535 g)

    pub value_end : is_ghost s ≡ false → v.vals - s.voff + s.vlen ≤ length b
    unfolding is_ghost
    value_end g = held_end v (length b) s (sound_span v b i s h lt e) (eqb-false s.voff 65535 g)

    pub child_room : (v.level ≡ 0 → ⊥) → v.vals - s.voff + 8 ≤ length b
    child_room n =
        let k : span_holds v (length b) s ≡ true = sound_span v b i s h lt e in
        omega (arith, held_end v (length b) s k (held_no_ghost v (length b) s k n), held_eight v (length b) s k n)

    pub child_start : (v.level ≡ 0 → ⊥) → s.voff ≤ v.vals
    child_start n =
        let k : span_holds v (length b) s ≡ true = sound_span v b i s h lt e in
        held_start v (length b) s k (held_no_ghost v (length b) s k n)

    pub child_there : (v.level ≡ 0 → ⊥) → s.voff ≡ 65535 → ⊥
    child_there n = held_no_ghost v (length b) s (sound_span v b i s h lt e) n

-- ---- what the code takes of these

pub ruleset bounds = (within_none, within_first, within_ends_lent)

pub ruleset value = (place_ghost, place_leaf, place_child, value_start, value_end, child_room)

pub ruleset child = (disk_of, child_room, child_start, child_there)

pub ruleset keys_rise_laws = (rise_keyed, rise_turn, rise_done)
