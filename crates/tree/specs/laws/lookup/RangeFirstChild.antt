-- Laws of the first child that range enters: found by one walk over a slot's records, and the children before it add nothing. Assumes nothing.
use Rattle.std.specs.Prelude.{◌≡◌, refl, List, [], length, drop, get_or, leb, Option, Some, None}
use Rattle.std.proofs.Math.Path.{sym, ap}
use Rattle.std.proofs.Common.{ap₂, ◌∙◌, add-zero, add-one, get_or-drop}
use Rattle.std.proofs.lemmas.Option.{none-some, same_Some}
use Rattle.std.proofs.Math.Bool.{Bool, true, false}
use Prim.Native.Nat.{ℕ, zero, suc, ◌+◌, ◌-◌, ◌≤◌, ◌<◌}
use native.Mathlib.Omega.{arith}
use borrow.Author.Tests.{le-leb, le-ltb, lt-ltb}
use Rattle.node.specs.Order.{less}
use Rattle.node.specs.Result.{Result, ok}
use Rattle.node.specs.Entry.{Entry, ghost}
use Rattle.node.specs.Find.{key_at}
use Rattle.node.specs.Records.{record_length, records_length, entry_of, entries_of}
use Rattle.node.specs.Slot.{head_at}
use Rattle.node.specs.declared.head.Head.{Head}
use Rattle.node.specs.laws.base.Tests.{by_test}
use Rattle.node.specs.laws.slot.Slot.{at_lies, at_next}
use Rattle.node.specs.laws.slot.Records.{entries_head, length_entries}
use Rattle.tree.specs.Lent.{Lent}
use Rattle.tree.specs.State.{State, node_at}
use Rattle.tree.specs.Load.{Bounds}
use Rattle.tree.specs.Lookup.{Got, ends_above, range_enters, range_kids}
use Rattle.tree.specs.Workspace.{slot_bytes, state_of}
use Rattle.tree.specs.internal.Bank.{live}
use Rattle.tree.specs.internal.Range.{next_entered}
use Rattle.tree.specs.laws.slots.Records.{entries_here, count_is}
use Rattle.tree.specs.declared.editor.Tree.{Tree}

-- ---- a child at an offset

key_in : (l : List ℕ) (n i at : ℕ) → i < n → at ≡ records_length i l → (entry_of (drop at l)).key ≡ key_at (entries_of n l) i
unfolding key_at
key_in l n i at h e =
    let d : Entry = record { key = []; value = ghost } in
    sym (ap (λ (x : Entry). x.key) (ap (λ (j : ℕ). get_or (entries_of n l) j d) (sym (add-zero i)) ∙ sym (get_or-drop i (entries_of n l) 0 d)
    ∙ ap (λ (x : List Entry). get_or x 0 d) (entries_head i n at l h e)))

pub next_room : (l : List ℕ) (n i at next : ℕ) → records_length n l ≤ length l → i + 1 < n → at ≡ records_length i l
    → next ≡ at + record_length (drop at l) → next + record_length (drop next l) ≤ length l
next_room l n i at next h q e f = at_lies l n (i + 1) next h q (at_next l i at next e f)

module _ (o : ℕ) (lo : List ℕ) (hi : List (List ℕ)) (l : List ℕ) (n i at : ℕ) (q : i < n) (e : at ≡ records_length i l) (k : List ℕ)
    (ek : k ≡ (entry_of (drop at l)).key) (a : Bool) (ea : a ≡ ends_above o hi k) where
  here : ends_above o hi (key_at (entries_of n l) i) ≡ a
  here = ap (ends_above o hi) (sym (key_in l n i at q e) ∙ sym ek) ∙ sym ea

  pub at_above : a ≡ false → a ≡ range_enters o lo hi (entries_of n l) i
  unfolding range_enters
  at_above h = h ∙ sym (rw (here, h))

  module _ (h : a ≡ true) where
    pub at_last : n ≤ i + 1 → leb n (i + 1) ≡ range_enters o lo hi (entries_of n l) i
    unfolding range_enters
    at_last z = le-leb n (i + 1) z ∙ sym (rw (here, h, length_entries n l, le-ltb (suc i) n (omega arith)))

    pub at_more : i + 1 < n → (next : ℕ) → next ≡ at + record_length (drop at l) → (k' : List ℕ) → k' ≡ (entry_of (drop next l)).key
        → (r : Bool) → r ≡ less o lo k' → r ≡ range_enters o lo hi (entries_of n l) i
    unfolding range_enters
    at_more z next f k' ek' r er =
        let y : r ≡ less o lo (key_at (entries_of n l) (suc i)) =
        er ∙ ap (less o lo) (ek' ∙ key_in l n (i + 1) next z (at_next l i at next e f) ∙ ap (key_at (entries_of n l)) (add-one i)) in
        sym (rw (here, h, length_entries n l, lt-ltb (suc i) n (omega arith), ← y))

pub ruleset entered = (next_room, at_lies, at_above, at_last, at_more)

-- ---- the first that is entered, of a slot's children

next_past : (o : ℕ) (lo : List ℕ) (hi : List (List ℕ)) (es : List Entry) (n i : ℕ) → n ≤ i → None ≡ next_entered o lo hi es (n - i) i
unfolding next_entered
next_past o lo hi es n i h = let z : n - i ≡ 0 = omega arith in sym (ap (λ (m : ℕ). next_entered o lo hi es m i) z)

module _ (es : List Entry) (n : ℕ) (l : List ℕ) (e : es ≡ entries_of n l) (o : ℕ) (lo : List ℕ) (hi : List (List ℕ)) where
  pub next_none : (from : ℕ) → n < from → None ≡ next_entered o lo hi es (length es - from) from
  next_none from h = next_past o lo hi es (length es) from (omega (arith, count_is es n l e))

  module _ (i : ℕ) (whole : Option ℕ) (inv : next_entered o lo hi es (n - i) i ≡ whole) where
    pub next_end : n ≤ i → None ≡ whole
    next_end h = next_past o lo hi es n i h ∙ inv

    module _ (h : i < n) (t : Bool) (et : t ≡ range_enters o lo hi (entries_of n l) i) where
      one_more : next_entered o lo hi es (suc (n - (i + 1))) i ≡ whole
      one_more = let z : n - i ≡ suc (n - (i + 1)) = omega arith in sym (ap (λ (m : ℕ). next_entered o lo hi es m i) z) ∙ inv

      test : range_enters o lo hi es i ≡ t
      test = ap (λ (x : List Entry). range_enters o lo hi x i) e ∙ sym et

      pub next_here : t ≡ true → Some i ≡ whole
      unfolding next_entered
      next_here q = sym (rw (test, q)) ∙ one_more

      pub next_passed : t ≡ false → next_entered o lo hi es (n - (i + 1)) (i + 1) ≡ whole
      unfolding next_entered
      next_passed q = ap (next_entered o lo hi es (n - (i + 1))) (add-one i) ∙ sym (rw (test, q)) ∙ one_more

  -- as many as there are entries
  pub next_start : (from : ℕ) → next_entered o lo hi es (n - from) from ≡ next_entered o lo hi es (length es - from) from
  next_start from = ap (λ (m : ℕ). next_entered o lo hi es (m - from) from) (count_is es n l e)

-- the same of the entries of a slot, as its words and bytes have them
pub next_some : (size : ℕ) (t : Tree) (heads bytes : List ℕ) (n from : ℕ) (lo : List ℕ) (hi : List (List ℕ)) → n < t.used → (h : Head)
    → h ≡ live (head_at heads n) → (l : List ℕ) → l ≡ slot_bytes size bytes n → (r : Option ℕ)
    → r ≡ next_entered t.order.code lo hi (entries_of h.count l) (h.count - from) from
    → r ≡ next_entered t.order.code lo hi (node_at (state_of size t heads bytes) n).entries
    (length (node_at (state_of size t heads bytes) n).entries - from) from
next_some size t heads bytes n from lo hi hn h eh l el r e =
    let z : (node_at (state_of size t heads bytes) n).entries ≡ entries_of h.count l = entries_here size t heads bytes n hn h eh l el in
    e ∙ ap₂ (λ (x : List Entry) (m : ℕ). next_entered t.order.code lo hi x (m - from) from) (sym z)
    (count_is (node_at (state_of size t heads bytes) n).entries h.count l z)

-- ---- what is before it adds nothing

-- where it stands, and that it is entered
pub record First (o : ℕ) (lo : List ℕ) (hi : List (List ℕ)) (es : List Entry) (m i j : ℕ) : Type 0 where
  pub least : i ≤ j
  pub most : j < i + m
  pub enters : range_enters o lo hi es j ≡ true

module _ (f : State → Bounds → ℕ → Result (Got Entry)) (l : Lent) (s : State) (bs : Bounds) (n : ℕ) (lo : List ℕ) (hi : List (List ℕ)) where
  abbrev es : List Entry
  es = (node_at s n).entries

  pub first_is : (m i j : ℕ) → next_entered s.order lo hi (node_at s n).entries m i ≡ Some j → First s.order lo hi (node_at s n).entries m i j
  unfolding next_entered
  first_is zero i j e = absurd (none-some _ e)
  first_is (suc m) i j e =
      by_test (range_enters s.order lo hi es i)
      (λ t.
      let z : Some i ≡ Some j = rw t at e in
      let y : i ≡ j = same_Some _ _ z in
      record { least = omega arith; most = omega arith; enters = rw y at t })
      (λ t.
      let r = first_is m (suc i) j (rw t at e) in
      record { least = omega (arith, r.least); most = omega (arith, r.most); enters = r.enters })

  pub kids_none : (m i : ℕ) → next_entered s.order lo hi (node_at s n).entries m i ≡ None
      → range_kids f l s bs n lo hi m i ≡ ok (record { state = s; answer = [] })
  unfolding next_entered range_kids
  kids_none zero i e = refl
  kids_none (suc m) i e =
      by_test (range_enters s.order lo hi es i)
      (λ t. let z : Some i ≡ None = rw t at e in absurd (none-some _ (sym z)))
      (λ t. rw t (kids_none m (suc i) (rw t at e)))

  pub kids_skipped : (m i j : ℕ) → next_entered s.order lo hi (node_at s n).entries m i ≡ Some j
      → range_kids f l s bs n lo hi (i + m - j) j ≡ range_kids f l s bs n lo hi m i
  unfolding next_entered range_kids
  kids_skipped zero i j e = absurd (none-some _ e)
  kids_skipped (suc m) i j e =
      by_test (range_enters s.order lo hi es i)
      (λ t.
      let z : Some i ≡ Some j = rw t at e in
      let y : i ≡ j = same_Some _ _ z in
      let x : i + suc m - j ≡ suc m = omega arith in
      ap₂ (λ (a b : ℕ). range_kids f l s bs n lo hi a b) x (sym y))
      (λ t.
      let x : i + suc m - j ≡ suc i + m - j = omega arith in
      ap (λ (a : ℕ). range_kids f l s bs n lo hi a j) x ∙ kids_skipped m (suc i) j (rw t at e) ∙ sym (rw t))

pub ruleset next_entered_laws = (next_none, next_start, next_end, next_here, next_passed)
