-- Laws of a walk over a slot's records: one for each turn and each way out. Assumes nothing.
use Rattle.std.specs.Prelude.{◌≡◌, refl, Bool, length, drop, leb, eqb}
use Rattle.std.proofs.Math.Path.{sym, ap}
use Rattle.std.proofs.Common.{◌∙◌}
use mathlib.Core.List.{List}
use Rattle.std.proofs.Math.Bool.{true, false, not}
use Prim.Native.Nat.{ℕ, ◌+◌, ◌≤◌, ◌<◌, ◌^◌}
use native.Mathlib.Omega.{arith}
use borrow.Author.Tests.{le-leb, lt-leb, eq-eqb, ne_eqb, leb-true, leb-false, eqb-true, eqb-false}
use Rattle.seal.specs.Bytes.{u16_at, window}
use Rattle.node.specs.laws.base.Tests.{and_left, and_right}
use Rattle.node.specs.Entry.{Entry}
use Rattle.node.specs.Records.{mark_length, value_of, record_length, entry_of, records_length}
use Rattle.node.specs.laws.slot.Records.{record_mark, records_less}
use Rattle.node.specs.Slot.{records_hold, is_child, suit}
use Rattle.node.specs.laws.slot.Slot.{at_next, at_start}
use Rattle.std.specs.Prelude.{Option, Some, None, MatchOption}
use Rattle.node.specs.declared.record.Record.{Record}

-- ---- records that hold

-- a record that does not lie within the list
pub hold_no : (l : List ℕ) (n used i at : ℕ) → i < n → at ≡ records_length i l → leb (at + record_length (drop at l)) (length l) ≡ false
    → false ≡ records_hold n used l
unfolding records_hold
hold_no l n used i at h p e =
    let a : length l < at + record_length (drop at l) = leb-false (at + record_length (drop at l)) (length l) e in
    let b : at + record_length (drop at l) ≡ records_length (i + 1) l = at_next l i at (at + record_length (drop at l)) p refl in
    let c = records_less (i + 1) n l (omega arith) in
    let d : length l < records_length n l = omega arith in
    rw (lt-leb (records_length n l) (length l) d)

-- what is known of the record that was looked for at an offset
abbrev pub Looked : List ℕ → ℕ → Option Record → Type 0
Looked l at v = MatchOption v (leb (at + record_length (drop at l)) (length l) ≡ false) (λ r. (r.slot.now ≡ l) × (r.at ≡ at))

pub hold_out : (l : List ℕ) (n used i at : ℕ) (v : Option Record) → i < n → at ≡ records_length i l → Looked l at v → v ≡ None
    → false ≡ records_hold n used l
hold_out l n used i at v h p k e = hold_no l n used i at h p (rw e at k)

module _ (l : List ℕ) (at : ℕ) (v : Option Record) (k : Looked l at v) (r : Record) (e : v ≡ Some r) where
  looked : (r.slot.now ≡ l) × (r.at ≡ at)
  looked = rw e at k

  pub looked_slot : r.slot.now ≡ l
  looked_slot = looked.0

  pub looked_at : r.at ≡ at
  looked_at = looked.1

  pub looked_lies : at + record_length (drop at l) ≤ length l
  looked_lies = rw (looked.0, looked.1) at r.lies

  -- and of where the next starts
  module _ (next : ℕ) (q : next ≡ r.at + record_length (drop r.at r.slot.now)) where
    looked_next : next ≡ at + record_length (drop at l)
    looked_next = rw (looked.0, looked.1) at q

    pub hold_next : (i : ℕ) → at ≡ records_length i l → next ≡ records_length (i + 1) l
    hold_next i p = at_next l i at next p looked_next

    pub hold_within : next ≤ length l
    hold_within = omega (arith, looked_next, looked_lies)

pub hold_end : (l : List ℕ) (n used i at : ℕ) → i ≤ n → n ≤ i → at ≡ records_length i l → at ≤ length l → eqb at used ≡ records_hold n used l
unfolding records_hold
hold_end l n used i at a b p h =
    let e : i ≡ n = omega arith in
    let q : at ≡ records_length n l = p ∙ ap (λ (x : ℕ). records_length x l) e in
    let h' : records_length n l ≤ length l = omega arith in
    rw (le-leb (records_length n l) (length l) h', ← q)

-- what a caller learns of records that hold
pub held_used : (n used : ℕ) (l : List ℕ) → records_hold n used l ≡ true → used ≡ records_length n l
unfolding records_hold
held_used n used l h = sym (eqb-true (records_length n l) used (and_right (leb (records_length n l) (length l)) (eqb (records_length n l) used) h))

pub held_room : (n used : ℕ) (l : List ℕ) → records_hold n used l ≡ true → records_length n l ≤ length l
unfolding records_hold
held_room n used l h = leb-true (records_length n l) (length l) (and_left (leb (records_length n l) (length l)) (eqb (records_length n l) used) h)

-- ---- marks that suit

child_of_lem : (m : ℕ) (w : List ℕ) (a b : Bool) → m < 2 ^ 16 → (m ≡ 0xFFFE → ⊥) → leb m 0xFFFC ≡ a → eqb m 0xFFFF ≡ b
    → eqb m 0xFFFD ≡ is_child (value_of m w)
unfolding is_child value_of
child_of_lem m w true b s z p q = let x : m ≤ 0xFFFC = leb-true m 0xFFFC p in rw p (ne_eqb m 0xFFFD (λ e. omega arith))
child_of_lem m w false true s z p q = let x : m ≡ 0xFFFF = eqb-true m 0xFFFF q in rw (p, q) (ne_eqb m 0xFFFD (λ e. omega arith))
child_of_lem m w false false s z p q =
    let x : 0xFFFC < m = leb-false m 0xFFFC p in
    let y : m ≡ 0xFFFF → ⊥ = eqb-false m 0xFFFF q in
    let e : m ≡ 0xFFFD = omega arith in
    rw (p, q, ne_eqb m 0xFFFE z) (eq-eqb m 0xFFFD e)

pub child_disk : (l : List ℕ) (at m : ℕ) → m ≡ u16_at l (at + 2) → m ≡ 0xFFFE → true ≡ is_child (entry_of (drop at l)).value
unfolding entry_of is_child value_of
child_disk l at m p q = sym (rw (record_mark l at, ← p, q))

pub child_other : (l : List ℕ) (at m : ℕ) → m ≡ u16_at l (at + 2) → m < 2 ^ 16 → (m ≡ 0xFFFE → ⊥)
    → eqb m 0xFFFD ≡ is_child (entry_of (drop at l)).value
unfolding entry_of
child_other l at m p s z =
    let e : u16_at (drop at l) 2 ≡ m = record_mark l at ∙ sym p in
    child_of_lem m (window (4 + u16_at (drop at l) 0) (mark_length m) (drop at l)) (leb m 0xFFFC) (eqb m 0xFFFF) s z refl refl
    ∙ ap (λ (x : ℕ). is_child (value_of x (window (4 + u16_at (drop at l) 0) (mark_length x) (drop at l)))) (sym e)

pub suit_leaf : (isLeaf t : Bool) (e : Entry) → t ≡ is_child e.value → isLeaf ≡ true → not t ≡ suit isLeaf e
unfolding suit
suit_leaf isLeaf t e p q = rw (q, ← p)

pub suit_index : (isLeaf t : Bool) (e : Entry) → t ≡ is_child e.value → isLeaf ≡ false → t ≡ suit isLeaf e
unfolding suit
suit_index isLeaf t e p q = rw (q, ← p)

-- what `Record::holds_child` and `Record::suits` take of these
pub ruleset child = (child_disk, child_other)

pub ruleset suits = (suit_leaf, suit_index)

-- what `records_hold` takes of these
pub ruleset hold = (at_start, hold_end)
