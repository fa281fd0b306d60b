-- Laws of one pass over a slot's records: entries that hold, keys that rise, what they take. Assumes nothing.
use Rattle.std.proofs.Math.Path.{◌≡◌, refl, sym, ap}
use Rattle.std.proofs.Common.{◌∙◌, length-drop, drop_of_length-le}
use mathlib.Core.List.{List, [], ◌∷◌}
use Rattle.std.specs.Prelude.{Bool, not, ◌&&◌, leb}
use Rattle.std.proofs.Math.Bool.{true, false}
use Prim.Native.Nat.{ℕ, ◌+◌, ◌≤◌, ◌<◌, ◌^◌}
use native.Mathlib.Omega.{arith}
use Rattle.std.proofs.Math.ListN.{length, drop}
use Rattle.std.proofs.Math.Dec.{eqb}
use Rattle.std.specs.Bool.{then_some}
use borrow.Author.Tests.{eq-eqb, ne_eqb, eqb-true, eqb-false, not-true, not-false}
use Rattle.seal.specs.Bytes.{u16_at, window}
use Rattle.seal.specs.laws.WindowLaws.{length_window}
use Rattle.node.specs.Order.{less}
use Rattle.node.specs.Entry.{Entry, rise_after, rising, every}
use Rattle.node.specs.Records.{mark_length, value_of, record_length, entry_of, records_length, entries_of}
use Rattle.node.specs.Slot.{records_hold, suit, key_length_holds, value_length_holds, value_holds, entry_holds}
use Rattle.node.specs.internal.SlotSteps.{mark_holds, records_stand, checked_of, Checking, parts_at, lengths_of, longer_of}
use Rattle.node.specs.laws.base.Tests.{by_test}
use Rattle.node.specs.laws.order.Rising.{Rises, rise_step, rise_end}
use Rattle.node.specs.laws.fit.Fit.{lengths_none, lengths_next, lengths_done, lengths_room}
use Rattle.node.specs.laws.slot.Records.{at_klen, at_mark, length_entries, entries_head, entry_key_length}
use Rattle.node.specs.laws.slot.Slot.{at_next}
use Rattle.node.specs.laws.slot.Find.{Looked, hold_out, hold_end, looked_lies, looked_slot, looked_at}
use Rattle.node.specs.declared.record.Record.{Record}
use Rattle.node.specs.declared.info.BTreeInfo.{BTreeInfo}
use Rattle.node.specs.declared.fit.Lengths.{Lengths}
use Rattle.node.specs.declared.record.RecordParts.{RecordParts}
use Rattle.std.specs.Prelude.{Option, Some, None, MatchOption, IsTrue}

-- ---- one entry

mark_cases : (t : BTreeInfo) (m : ℕ) (w : List ℕ) (a b c : Bool) → length w ≡ mark_length m → leb m 0xFFFC ≡ a → eqb m 0xFFFF ≡ b → eqb m 0xFFFE ≡ c
    → mark_holds t m ≡ value_holds t (value_of m w)
unfolding mark_holds value_holds value_of mark_length
mark_cases t m w true b c e p q r = let g : length w ≡ m = rw p at e in rw p (ap (value_length_holds t) (sym g))
mark_cases t m w false true c e p q r = rw (p, q)
mark_cases t m w false false true e p q r = rw (p, q, r)
mark_cases t m w false false false e p q r = rw (p, q, r)

module _ (o : ℕ) (t : BTreeInfo) (isLeaf : Bool) (l : List ℕ) (at : ℕ) (r : RecordParts) (lies : at + record_length (drop at l) ≤ length l)
    (e : r ≡ parts_at l at) where
  whole : record_length (drop at l) ≤ length (drop at l)
  whole = rw length-drop (omega arith)

  key_is : r.klen ≡ length (entry_of (drop at l)).key
  key_is = at_klen l at r e ∙ sym (entry_key_length (drop at l) whole)

  mark_is : mark_holds t r.mark ≡ value_holds t (entry_of (drop at l)).value
  unfolding entry_of record_length
  mark_is =
      let m : ℕ = u16_at (drop at l) 2 in
      let w : List ℕ = window (4 + u16_at (drop at l) 0) (mark_length m) (drop at l) in
      let q : length w ≡ mark_length m = length_window (4 + u16_at (drop at l) 0) (mark_length m) (drop at l) (omega (arith, whole)) in
      ap (mark_holds t) (at_mark l at r e) ∙ mark_cases t m w (leb m 0xFFFC) (eqb m 0xFFFF) (eqb m 0xFFFE) q refl refl refl

  module _ (k : Bool) (ek : k ≡ key_length_holds o t r.klen) where
    key_so : k ≡ key_length_holds o t (length (entry_of (drop at l)).key)
    key_so = ek ∙ ap (key_length_holds o t) key_is

    pub entry_key_no : not k ≡ true → false ≡ entry_holds o t isLeaf (entry_of (drop at l))
    unfolding entry_holds
    entry_key_no h = rw (← key_so, not-true k h)

    module _ (v : Bool) (ev : v ≡ mark_holds t r.mark) where
      pub entry_value_no : not k ≡ false → not v ≡ true → false ≡ entry_holds o t isLeaf (entry_of (drop at l))
      unfolding entry_holds
      entry_value_no h f = rw (← key_so, not-false k h, ← mark_is, ← ev, not-true v f)

      pub entry_suits : (u : Bool) → not k ≡ false → not v ≡ false → u ≡ suit isLeaf (entry_of (drop at l))
          → u ≡ entry_holds o t isLeaf (entry_of (drop at l))
      unfolding entry_holds
      entry_suits u h f q = rw (← key_so, not-false k h, ← mark_is, ← ev, not-false v f) q

-- ---- the pass

second_no : (a b c : Bool) → b ≡ false → false ≡ a && b && c
second_no true b c h = rw h
second_no false b c h = refl

third_no : (a b c : Bool) → c ≡ false → false ≡ a && b && c
third_no true true c h = sym h
third_no true false c h = refl
third_no false b c h = refl

both : (a : Bool) → a && true && true ≡ a
both true = refl
both false = refl

module _ (o : ℕ) (t : BTreeInfo) (isLeaf : Bool) (n : ℕ) (l : List ℕ) where
  abbrev es : List Entry
  es = entries_of n l

  abbrev T : Entry → Bool
  T = entry_holds o t isLeaf

  refuses : (used : ℕ) → false ≡ records_stand o t isLeaf n used l → None ≡ checked_of o t isLeaf n used l
  unfolding checked_of
  refuses used h = rw (← h)

  pub check_start : (s : Lengths) → s.at ≡ 0 → s.keys ≡ 0 → s.values ≡ 0 → Checking o t isLeaf n l 0 s
  unfolding records_length
  check_start s a k v =
      let e : ◌≡◌ {A = Lengths} (record { at = s.at; keys = s.keys; values = s.values }) (record { at = 0; keys = 0; values = 0 }) = rw (a, k, v) in
      record { few = omega arith; within = omega arith; sums = e ∙ lengths_none t l; hold = refl }

  module _ (i : ℕ) (s : Lengths) (g : Checking o t isLeaf n l i s) where
    at_is : s.at ≡ records_length i l
    unfolding lengths_of
    at_is = ap (λ (x : Lengths). x.at) g.sums

    pub check_in : s.at ≤ length l
    check_in = omega (arith, at_is, g.within)

    -- what is left starts with the record at s.at
    left : i < n → drop i es ≡ entry_of (drop s.at l) ∷ drop (i + 1) es
    left h = entries_head i n s.at l h at_is

    module _ (v : Option Record) (k : Looked l s.at v) where
      pub check_out : (used : ℕ) → i < n → v ≡ None → None ≡ checked_of o t isLeaf n used l
      unfolding records_stand
      check_out used h q =
          let z : false ≡ records_hold n used l = hold_out l n used i s.at v h at_is k q in
          refuses used (rw (← z))

      module _ (r : Record) (q : v ≡ Some r) where
        check_lies : s.at + record_length (drop s.at l) ≤ length l
        check_lies = looked_lies l s.at v k r q

        check_slot : r.slot.now ≡ l
        check_slot = looked_slot l s.at v k r q

        pub check_at : r.at ≡ s.at
        check_at = looked_at l s.at v k r q

        pub check_long : length l ≤ 2 ^ 20 → length r.slot.now ≤ 2 ^ 20
        check_long m = rw check_slot m

        check_entry_is : entry_of (drop r.at r.slot.now) ≡ entry_of (drop s.at l)
        check_entry_is = rw (check_slot, check_at)

        pub check_key : (x : List ℕ) → x ≡ (entry_of (drop r.at r.slot.now)).key → x ≡ (entry_of (drop s.at l)).key
        check_key x e = e ∙ ap (λ (z : Entry). z.key) check_entry_is

        within_next : records_length (i + 1) l ≤ length l
        within_next = omega (arith, check_lies, at_next l i s.at (s.at + record_length (drop s.at l)) at_is refl)

        pub check_sums : length l ≤ 2 ^ 20 → (s.keys < 2 ^ 32) × (s.values < 2 ^ 32)
        check_sums m = let f = lengths_room t i i l s g.sums (omega arith) g.within m in (omega arith, omega arith)

        module _ (h : i < n) (b : Bool) (eb : b ≡ T (entry_of (drop r.at r.slot.now))) where
          holds_is : b ≡ T (entry_of (drop s.at l))
          holds_is = eb ∙ ap T check_entry_is

          every_is : every T es ≡ b && every T (drop (i + 1) es)
          unfolding every
          every_is = sym g.hold ∙ ap (every T) (left h) ∙ ap (λ (x : Bool). x && every T (drop (i + 1) es)) (sym holds_is)

          pub check_entry : (used : ℕ) → b ≡ false → None ≡ checked_of o t isLeaf n used l
          unfolding records_stand
          check_entry used f =
              let z : every T es ≡ false = every_is ∙ rw f in
              refuses used (second_no (records_hold n used l) (every T es) (rising o es) z)

          pub check_turn : (s' : Lengths) → b ≡ true → s' ≡ longer_of t r.slot.now s → Checking o t isLeaf n l (i + 1) s'
          check_turn s' f u =
              record {
                few = omega arith;
                within = within_next;
                sums = lengths_next t i (i + 1) l s s' g.sums (u ∙ ap (λ (x : List ℕ). longer_of t x s) check_slot) (omega arith) within_next;
                hold = sym (every_is ∙ rw f);
              }

    none : n ≤ i → drop i es ≡ []
    none h = let b : length es ≤ i = omega (arith, length_entries n l) in drop_of_length-le es b

    stand_is : (used : ℕ) → n ≤ i → true ≡ rising o es → eqb s.at used ≡ records_stand o t isLeaf n used l
    unfolding records_stand every
    stand_is used h c =
        let a : eqb s.at used ≡ records_hold n used l = hold_end l n used i s.at g.few h at_is check_in in
        let b : every T es ≡ true = sym g.hold ∙ ap (every T) (none h) in
        a ∙ sym (rw (b, ← c) (both (records_hold n used l)))

    check_used : (used : ℕ) → n ≤ i → true ≡ rising o es → (s.at ≡ used → ⊥) → None ≡ checked_of o t isLeaf n used l
    check_used used h c f = refuses used (sym (ne_eqb s.at used f) ∙ stand_is used h c)

    check_held : (used : ℕ) → n ≤ i → true ≡ rising o es → s.at ≡ used → Some s ≡ checked_of o t isLeaf n used l
    unfolding checked_of
    check_held used h c e =
        let z : records_stand o t isLeaf n used l ≡ true = sym (stand_is used h c) ∙ eq-eqb s.at used e in
        rw z (ap Some (lengths_done t i n l s g.sums g.few h))

    pub check_done : (used : ℕ) → n ≤ i → true ≡ rising o es → then_some (eqb s.at used) s ≡ checked_of o t isLeaf n used l
    check_done used h c =
        by_test (eqb s.at used)
        (λ e. rw e (check_held used h c (eqb-true s.at used e)))
        (λ e. rw e (check_used used h c (eqb-false s.at used e)))

    -- the key of the record there is above the one before it, `last`, or not
    module _ {A : Type 0} (now : A → List ℕ) (last : Option A) (rise : Rises o now last (drop i es) (rising o es)) where
      module _ (h : i < n) (k : List ℕ) (ek : k ≡ (entry_of (drop s.at l)).key) (c : Bool)
          (ec : MatchOption last (IsTrue c) (λ a. c ≡ less o (now a) k)) where
        rise_is : rising o es ≡ c && rise_after o k (drop (i + 1) es)
        rise_is = rise_step o now last (entry_of (drop s.at l)) (drop (i + 1) es) (rising o es) c k ek (rw (← left h) rise) ec

        pub check_fall : (used : ℕ) → c ≡ false → None ≡ checked_of o t isLeaf n used l
        unfolding records_stand
        check_fall used d =
            let z : rising o es ≡ false = rise_is ∙ rw d in
            refuses used (third_no (records_hold n used l) (every T es) (rising o es) z)

        pub check_rise : c ≡ true → rise_after o k (drop (i + 1) es) ≡ rising o es
        check_rise d = sym (rise_is ∙ rw d)

      pub check_risen : n ≤ i → true ≡ rising o es
      check_risen h = rise_end o now last (rising o es) (rw (none h) at rise)

-- ---- what a caller learns

module _ (o : ℕ) (t : BTreeInfo) (isLeaf : Bool) (n used : ℕ) (l : List ℕ) where
  pub checked_stands : (s : Lengths) → Some s ≡ checked_of o t isLeaf n used l → records_stand o t isLeaf n used l ≡ true
  unfolding checked_of
  checked_stands s e = by_test (records_stand o t isLeaf n used l) (λ z. z)
      (λ z. let q : Some s ≡ None = rw z at e in let x : ◌≡◌ {A = ℕ} 0 1 = cc in absurd (omega arith))

  pub checked_lengths : (s : Lengths) → Some s ≡ checked_of o t isLeaf n used l → s ≡ lengths_of t n l
  unfolding checked_of
  checked_lengths s e = by_test (records_stand o t isLeaf n used l) (λ z. let q : Some s ≡ Some (lengths_of t n l) = rw z at e in cc)
      (λ z. let q : Some s ≡ None = rw z at e in let x : ◌≡◌ {A = ℕ} 0 1 = cc in absurd (omega arith))

  pub checked_not : None ≡ checked_of o t isLeaf n used l → records_stand o t isLeaf n used l ≡ false
  unfolding checked_of
  checked_not e = by_test (records_stand o t isLeaf n used l)
      (λ z. let q : None ≡ Some (lengths_of t n l) = rw z at e in let x : ◌≡◌ {A = ℕ} 0 1 = cc in absurd (omega arith)) (λ z. z)

-- ---- what the pass takes of these

pub ruleset pass = (check_start, check_in)

pub ruleset entry = (entry_key_no, entry_value_no, entry_suits)
