-- A search among records: those that it passes at once, then one at a time. Assumes nothing.
use Rattle.std.specs.Prelude.{◌≡◌, refl, List, [], Bool, true, false, not, ◌&&◌, ◌||◌, ℕ, suc, ◌+◌, ◌-◌, ◌≤◌, ◌<◌, length, drop, ltb, eqb, Result, Ok, Err}
use Rattle.std.proofs.Common.{sym, ap, ◌∙◌, arith, zero-add, drop_of_length-le, ltb-true, le-ltb, eq-eqb, ne_eqb, eqb-true}
use mathlib.Core.List.{◌∷◌}
use Rattle.std.specs.declared.cmp.Ordering.{Ordering}
use Rattle.std.specs.Ordering.{is_lt, is_eq, is_gt}
use Rattle.seal.specs.Bytes.{u16_at, u64_at}
use Rattle.node.specs.Order.{pair, byte, keyed, pair_less, byte_less, less}
use Rattle.node.specs.Entry.{Entry}
use Rattle.node.specs.Records.{mark_length, record_length, records_length, entry_of, entries_of}
use Rattle.node.specs.Find.{place_of, is_there, not_above}
use Rattle.node.specs.declared.slot.RecordAt.{RecordAt}
use Rattle.node.specs.declared.slot.Last.{Last}
use Rattle.node.specs.internal.SlotSteps.{found_in, last_in}
use Rattle.node.specs.declared.slot.Run.{Run}
use Rattle.node.specs.internal.Sought.{compared, Below, Passed}
use Rattle.node.specs.laws.order.Compared.{compared_lt}
use Rattle.node.specs.laws.base.Tests.{by_test, or_right, and_left, and_right}
use Rattle.node.specs.laws.slot.Records.{length_entries, entries_head}
use Rattle.node.specs.laws.slot.Slot.{at_lies, at_next}
use Rattle.node.specs.laws.slot.SameHead.{like_length}

-- ---- no two keys are each below the other

-- the first of two things decides, else the second
first_decides : (x y : ℕ) (t u : Bool) → (t ≡ true → u ≡ false) → ltb x y || eqb x y && t ≡ true → ltb y x || eqb y x && u ≡ false
first_decides x y t u h e =
    by_test (ltb x y)
    (λ p. let q = ltb-true x y p in rw (le-ltb y x (omega arith), ne_eqb y x (λ z. omega arith)))
    (λ p.
    let r = or_right (ltb x y) (eqb x y && t) p e in
    let q : x ≡ y = eqb-true x y (and_left (eqb x y) t r) in
    rw (le-ltb y x (omega arith), eq-eqb y x (sym q)) (h (and_right (eqb x y) t r)))

byte_asym : (a b : List ℕ) → byte_less a b ≡ true → byte_less b a ≡ false
unfolding byte_less
byte_asym [] [] e = refl
byte_asym [] (y ∷ ys) e = refl
byte_asym (x ∷ xs) [] e = sym e
byte_asym (x ∷ xs) (y ∷ ys) e = first_decides x y (byte_less xs ys) (byte_less ys xs) (byte_asym xs ys) e

pair_asym : (a b : List ℕ) → pair_less a b ≡ true → pair_less b a ≡ false
unfolding pair_less
pair_asym a b =
    first_decides (u64_at a 0) (u64_at b 0) (ltb (u64_at a 8) (u64_at b 8)) (ltb (u64_at b 8) (u64_at a 8))
    (λ t. let q = ltb-true (u64_at a 8) (u64_at b 8) t in le-ltb (u64_at b 8) (u64_at a 8) (omega arith))

any_asym : (o : ℕ) (a b : List ℕ) → less o a b ≡ true → less o b a ≡ false
unfolding less
any_asym o a b e =
    by_test (eqb o pair)
    (λ p. by_test (keyed o a)
    (λ q. by_test (keyed o b)
    (λ r. rw (p, q, r) (pair_asym a b (rw (p, q, r) at e)))
    (λ r. rw (p, q, r) (byte_asym a b (rw (p, q, r) at e))))
    (λ q. by_test (keyed o b)
    (λ r. rw (p, q, r) (byte_asym a b (rw (p, q) at e)))
    (λ r. rw (p, r) (byte_asym a b (rw (p, q) at e)))))
    (λ p. rw p (byte_asym a b (rw p at e)))

-- ---- how two keys stand

module _ (o : ℕ) (a b : List ℕ) where
  compared_eq : less o a b ≡ false → is_eq (compared o a b) ≡ not (less o b a)
  unfolding compared
  compared_eq t = by_test (less o b a) (λ u. rw (t, u)) (λ u. rw (t, u))

  compared_gt : is_gt (compared o a b) ≡ less o b a
  unfolding compared
  compared_gt =
      by_test (less o a b)
      (λ t. rw (t, any_asym o a b t))
      (λ t. by_test (less o b a) (λ u. rw (t, u)) (λ u. rw (t, u)))

-- every order but that of pairs compares as byte order does
module _ (o : ℕ) (h : o ≡ 0 → ⊥) (k : List ℕ) where
  other : (a b : List ℕ) → less byte a b ≡ less o a b
  unfolding less
  other a b = rw (ne_eqb o pair h)

  place_other : (es : List Entry) → place_of byte k es ≡ place_of o k es
  unfolding place_of
  place_other [] = refl
  place_other (e ∷ es) = rw (other e.key k, place_other es)

  there_other : (es : List Entry) → is_there byte k es ≡ is_there o k es
  unfolding is_there
  there_other [] = refl
  there_other (e ∷ es) = rw (other e.key k, other k e.key, there_other es)

  above_other : (es : List Entry) → not_above byte k es ≡ not_above o k es
  unfolding not_above
  above_other [] = refl
  above_other (e ∷ es) = rw (other k e.key, above_other es)

  pub found_other : (n : ℕ) (l : List ℕ) → found_in byte k n l ≡ found_in o k n l
  unfolding found_in
  found_other n l = rw (place_other (entries_of n l), there_other (entries_of n l))

  pub last_other : (n : ℕ) (l : List ℕ) → last_in byte k n l ≡ last_in o k n l
  unfolding last_in
  last_other n l = rw (above_other (entries_of n l))

-- ---- one record at a time, from record i on

module _ (o : ℕ) (k : List ℕ) (n : ℕ) (l : List ℕ) where
  abbrev es : List Entry
  es = entries_of n l

  none_left : (i : ℕ) → n ≤ i → drop i es ≡ []
  none_left i h = let a = length_entries n l in let b : length es ≤ i = omega arith in drop_of_length-le es b

  module _ (i at : ℕ) (hi : i < n) (p : at ≡ records_length i l) where
    abbrev key : List ℕ
    key = (entry_of (drop at l)).key

    place_past : less o key k ≡ true → i + place_of o k (drop i es) ≡ place_of o k es → i + 1 + place_of o k (drop (i + 1) es) ≡ place_of o k es
    unfolding place_of
    place_past x v =
        let y : place_of o k (drop i es) ≡ suc (place_of o k (drop (i + 1) es)) = ap (place_of o k) (entries_head i n at l hi p) ∙ rw x in
        omega arith

    there_past : less o key k ≡ true → is_there o k (drop i es) ≡ is_there o k es → is_there o k (drop (i + 1) es) ≡ is_there o k es
    unfolding is_there
    there_past x v =
        let y : is_there o k (drop i es) ≡ is_there o k (drop (i + 1) es) = ap (is_there o k) (entries_head i n at l hi p) ∙ rw x in
        sym y ∙ v

    above_past : less o k key ≡ false → i + not_above o k (drop i es) ≡ not_above o k es
        → i + 1 + not_above o k (drop (i + 1) es) ≡ not_above o k es
    unfolding not_above
    above_past x v =
        let y : not_above o k (drop i es) ≡ suc (not_above o k (drop (i + 1) es)) = ap (not_above o k) (entries_head i n at l hi p) ∙ rw x in
        omega arith

    -- what the comparison of the record's key says
    module _ (c : Ordering) (e : c ≡ compared o key k) where
      said_lt : is_lt c ≡ less o key k
      said_lt = ap is_lt e ∙ compared_lt o key k

      said_gt : is_gt c ≡ less o k key
      said_gt = ap is_gt e ∙ compared_gt o key k

      pub place_turn : (t : Bool) → t ≡ is_lt c → t ≡ true → i + place_of o k (drop i es) ≡ place_of o k es
          → i + 1 + place_of o k (drop (i + 1) es) ≡ place_of o k es
      place_turn t q r = place_past (sym said_lt ∙ sym q ∙ r)

      pub there_turn : (t : Bool) → t ≡ is_lt c → t ≡ true → is_there o k (drop i es) ≡ is_there o k es
          → is_there o k (drop (i + 1) es) ≡ is_there o k es
      there_turn t q r = there_past (sym said_lt ∙ sym q ∙ r)

      pub above_turn : (t : Bool) → t ≡ is_gt c → t ≡ false → i + not_above o k (drop i es) ≡ not_above o k es
          → i + 1 + not_above o k (drop (i + 1) es) ≡ not_above o k es
      above_turn t q r = above_past (sym said_gt ∙ sym q ∙ r)

      place_here : is_lt c ≡ false → i + place_of o k (drop i es) ≡ place_of o k es → i ≡ place_of o k es
      unfolding place_of
      place_here q v =
          let y : place_of o k (drop i es) ≡ 0 = ap (place_of o k) (entries_head i n at l hi p) ∙ rw (sym said_lt ∙ q) in
          omega arith

      there_here : is_lt c ≡ false → is_there o k (drop i es) ≡ is_there o k es → is_eq c ≡ is_there o k es
      unfolding is_there
      there_here q w =
          let x : less o key k ≡ false = sym said_lt ∙ q in
          let z : is_there o k (drop i es) ≡ not (less o k key) = ap (is_there o k) (entries_head i n at l hi p) ∙ rw x in
          ap is_eq e ∙ compared_eq o key k x ∙ sym z ∙ w

      -- the record has the key, or is the first above it
      pub found_here : (t u : Bool) → t ≡ is_lt c → t ≡ false → u ≡ is_eq c → i + place_of o k (drop i es) ≡ place_of o k es
          → is_there o k (drop i es) ≡ is_there o k es → u ≡ true
          → ◌≡◌ {A = Result RecordAt RecordAt} (Ok (record { index = i; at = at })) (found_in o k n l)
      unfolding found_in
      found_here t u q r s v w b =
          let f : true ≡ is_there o k es = sym b ∙ s ∙ there_here (sym q ∙ r) w in
          rw (p, ← f, place_here (sym q ∙ r) v)

      pub found_above : (t u : Bool) → t ≡ is_lt c → t ≡ false → u ≡ is_eq c → i + place_of o k (drop i es) ≡ place_of o k es
          → is_there o k (drop i es) ≡ is_there o k es → u ≡ false
          → ◌≡◌ {A = Result RecordAt RecordAt} (Err (record { index = i; at = at })) (found_in o k n l)
      unfolding found_in
      found_above t u q r s v w b =
          let f : false ≡ is_there o k es = sym b ∙ s ∙ there_here (sym q ∙ r) w in
          rw (p, ← f, place_here (sym q ∙ r) v)

      pub last_here : (t : Bool) (last : ℕ) → t ≡ is_gt c → t ≡ true → last ≡ records_length (i - 1) l
          → i + not_above o k (drop i es) ≡ not_above o k es → ◌≡◌ {A = Last} (record { count = i; at = last }) (last_in o k n l)
      unfolding not_above last_in
      last_here t last q r m v =
          let x : less o k key ≡ true = sym said_gt ∙ sym q ∙ r in
          let y : not_above o k (drop i es) ≡ 0 = ap (not_above o k) (entries_head i n at l hi p) ∙ rw x in
          let a : i ≡ not_above o k es = omega arith in
          rw (m, a)

  -- no record is left
  pub found_none : (i at : ℕ) → n ≤ i → i ≤ n → at ≡ records_length i l → i + place_of o k (drop i es) ≡ place_of o k es
      → is_there o k (drop i es) ≡ is_there o k es → ◌≡◌ {A = Result RecordAt RecordAt} (Err (record { index = n; at = at })) (found_in o k n l)
  unfolding place_of is_there found_in
  found_none i at h m p v w =
      let y : place_of o k (drop i es) ≡ 0 = ap (place_of o k) (none_left i h) in
      let z : is_there o k (drop i es) ≡ false = ap (is_there o k) (none_left i h) in
      let a : n ≡ place_of o k es = omega arith in
      let q : at ≡ records_length n l = p ∙ ap (λ (j : ℕ). records_length j l) (omega arith) in
      let f : false ≡ is_there o k es = sym z ∙ w in
      rw (q, ← a, ← f)

  pub last_none : (i last : ℕ) → n ≤ i → i ≤ n → last ≡ records_length (i - 1) l → i + not_above o k (drop i es) ≡ not_above o k es
      → ◌≡◌ {A = Last} (record { count = n; at = last }) (last_in o k n l)
  unfolding not_above last_in
  last_none i last h b m v =
      let y : not_above o k (drop i es) ≡ 0 = ap (not_above o k) (none_left i h) in
      let a : n ≡ not_above o k es = omega arith in
      let q : last ≡ records_length (n - 1) l = m ∙ ap (λ (j : ℕ). records_length (j - 1) l) (omega arith) in
      rw (q, ← a)

-- the last record before the next
pub last_kept : (l : List ℕ) (i at : ℕ) → at ≡ records_length i l → at ≡ records_length (i + 1 - 1) l
last_kept l i at p = let e : i ≡ i + 1 - 1 = omega arith in p ∙ ap (λ (x : ℕ). records_length x l) e

-- ---- records that are passed at once

pub passed_none : (o : ℕ) (k : List ℕ) (n : ℕ) (l : List ℕ) (r : Run) → r.count ≡ 0 → r.at ≡ 0 → r.last ≡ 0 → Passed o k n l r
unfolding records_length
passed_none o k n l r c a p =
    record {
      upto = omega arith;
      start = rw (c, a) refl;
      last = rw (c, p) refl;
      place = rw c (zero-add (place_of o k (entries_of n l)));
      there = rw c refl;
      not_above = rw c (zero-add (not_above o k (entries_of n l)));
    }

module _ (o : ℕ) (k : List ℕ) (n : ℕ) (l : List ℕ) (i at last : ℕ) (h : records_length n l ≤ length l) (hi : i < n)
    (p : Passed o k n l (record { count = i; at = at; last = last })) where
  pub passed_lies : at + record_length (drop at l) ≤ length l
  passed_lies = at_lies l n i at h hi p.start

  pub passed_next : (next : ℕ) → Below o (entry_of (drop at l)).key k → next ≡ at + record_length (drop at l)
      → Passed o k n l (record { count = i + 1; at = next; last = at })
  passed_next next b e =
      record {
        upto = omega arith;
        start = at_next l i at next p.start e;
        last = last_kept l i at p.start;
        place = place_past o k n l i at hi p.start b.below p.place;
        there = there_past o k n l i at hi p.start b.below p.there;
        not_above = above_past o k n l i at hi p.start b.not_above p.not_above;
      }

-- where the next record starts, by what a mark adds to the bare length
pub bare_next : (l : List ℕ) (at after klen mark bare more : ℕ) → klen ≡ u16_at l at → mark ≡ u16_at l (at + 2) → after ≡ at + bare
    → bare + more ≡ 4 + mark_length mark → after + (klen + more) ≡ at + record_length (drop at l)
bare_next l at after klen mark bare more k m e a =
    let r : 4 + klen + mark_length mark ≡ record_length (drop at l) = like_length l at klen mark (mark_length mark) k m refl in
    omega arith

-- ---- what the searches take of these

pub ruleset place = (at_next, place_turn, there_turn, found_here, found_above, found_none)

pub ruleset above = (above_turn, last_kept, last_here, last_none)
