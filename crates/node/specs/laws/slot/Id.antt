-- The id of a pair key, and that it decides where it is below another's. Assumes nothing.
use Rattle.std.specs.Prelude.{◌≡◌, refl, true, false, length, drop, ltb, eqb}
use Rattle.std.proofs.Math.Path.{sym}
use Rattle.std.proofs.Common.{◌∙◌, length-drop}
use mathlib.Core.List.{List}
use Prim.Native.Nat.{ℕ, ◌+◌, ◌-◌, ◌≤◌, ◌<◌}
use native.Mathlib.Omega.{arith}
use borrow.Author.Tests.{lt-ltb, le-ltb, eq-eqb, ne_eqb, eqb-true, eqb-false}
use Rattle.seal.specs.Bytes.{u16_at, u64_at}
use Rattle.seal.specs.laws.FieldLaws.{field_window, field_drop}
use Rattle.node.specs.Order.{pair, less}
use Rattle.node.specs.Records.{record_length, entry_of}
use Rattle.node.specs.internal.SlotSteps.{pair_id, id_below}
use Rattle.node.specs.internal.Sought.{Below}
use Rattle.node.specs.laws.base.Tests.{by_test}
use Rattle.node.specs.laws.order.OrderSteps.{less_pair, pair_id_lem}
use Rattle.node.specs.laws.slot.Records.{record_klen, entry_key_length}

pub id_none : (k : List ℕ) → (length k ≡ 16 → ⊥) → 0 ≡ pair_id k
unfolding pair_id
id_none k h = rw (ne_eqb (length k) 16 h)

pub id_pair : (k : List ℕ) (x : ℕ) → length k ≡ 16 → x ≡ u64_at k 0 → x ≡ pair_id k
unfolding pair_id
id_pair k x h e = rw (eq-eqb (length k) 16 h) e

-- ---- a key whose id is below that of another is below it, and not above it

module _ (k key : List ℕ) (id : ℕ) (p : id ≡ pair_id key) (long : length k ≡ 16) (smaller : u64_at k 0 < id) where
  other_long : length key ≡ 16
  other_long =
      by_test (eqb (length key) 16)
      (λ t. eqb-true (length key) 16 t)
      (λ t. let z = id_none key (eqb-false (length key) 16 t) in absurd (omega arith))

  differ : u64_at k 0 < u64_at key 0
  differ = let z = id_pair key (u64_at key 0) other_long refl in omega arith

  pub id_lower : less pair k key ≡ true
  id_lower =
      let d = differ in
      let e : ltb (u64_at k 0) (u64_at key 0) ≡ true = lt-ltb (u64_at k 0) (u64_at key 0) d in
      sym (less_pair pair k key true refl long other_long (sym e ∙ pair_id_lem k key (u64_at k 0) (u64_at key 0) refl refl (λ z. omega arith)))

  pub id_not_above : less pair key k ≡ false
  id_not_above =
      let d = differ in
      let e : ltb (u64_at key 0) (u64_at k 0) ≡ false = le-ltb (u64_at key 0) (u64_at k 0) (omega arith) in
      sym (less_pair pair key k false refl other_long long (sym e ∙ pair_id_lem key k (u64_at key 0) (u64_at k 0) refl refl (λ z. omega arith)))

-- ---- the id of the key of the record at an offset

module _ (l : List ℕ) (at klen : ℕ) (h : at + record_length (drop at l) ≤ length l) (p : klen ≡ u16_at l at) where
  key_long : length (entry_of (drop at l)).key ≡ klen
  key_long =
      let d : length (drop at l) ≡ length l - at = length-drop at l in
      let r : record_length (drop at l) ≤ length (drop at l) = omega arith in
      entry_key_length (drop at l) r ∙ record_klen l at ∙ sym p

  pub id_lies : klen ≡ 16 → at + 4 + 8 ≤ length l
  unfolding record_length
  id_lies e = let k = record_klen l at in omega arith

  id_is : (x : ℕ) → klen ≡ 16 → x ≡ u64_at l (at + 4) → u64_at (entry_of (drop at l)).key 0 ≡ x
  unfolding entry_of
  id_is x e q =
      let n : 0 + 8 ≤ u16_at (drop at l) 0 = let k = record_klen l at in omega arith in
      field_window 8 4 (u16_at (drop at l) 0) (drop at l) 0 n ∙ field_drop 8 at l 4 ∙ sym q

  pub id_other : (id : ℕ) → (klen ≡ 16 → ⊥) → false ≡ id_below (entry_of (drop at l)).key id
  unfolding id_below
  id_other id n = rw (key_long, ne_eqb klen 16 n)

  pub id_test : (x id : ℕ) → klen ≡ 16 → x ≡ u64_at l (at + 4) → ltb x id ≡ id_below (entry_of (drop at l)).key id
  unfolding id_below
  id_test x id e q = rw (key_long, eq-eqb klen 16 e, id_is x e q)

  -- a record with a pair key whose id is below that of another key
  pub below_by_id : (x id : ℕ) (k : List ℕ) → klen ≡ 16 → x ≡ u64_at l (at + 4) → id ≡ pair_id k → x < id → Below pair (entry_of (drop at l)).key k
  below_by_id x id k e q i s =
      let a : List ℕ = (entry_of (drop at l)).key in
      let m : length a ≡ 16 = key_long ∙ e in
      let d : u64_at a 0 < id = let w = id_is x e q in omega arith in
      record { below = id_lower a k id i m d; not_above = id_not_above a k id i m d }

-- ---- what a search takes of these

pub ruleset ids = (id_lies, id_other, id_test)
