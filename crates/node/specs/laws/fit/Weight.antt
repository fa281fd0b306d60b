-- What entries weigh against what fits: records of a node that fits, and entries that fit nowhere. Assumes nothing.
use Rattle.std.specs.Prelude.{◌≡◌, Bool, true, false, take, leb}
use Rattle.std.proofs.Math.Path.{refl, ap}
use Rattle.std.proofs.Common.{◌∙◌, take-append-drop, leb-true, leb-false}
use mathlib.Core.List.{List, [], ◌∷◌, ◌++◌}
use Prim.Native.Nat.{ℕ, suc, ◌+◌, ◌-◌, ◌*◌, ◌^◌, ◌≤◌, ◌<◌}
use native.Mathlib.Omega.{arith}
use Rattle.std.proofs.Math.ListN.{length, drop, length-append}
use Rattle.std.proofs.Math.Seq.{take-append-add}
use Rattle.std.proofs.lemmas.List.{drop-append-le}
use Rattle.node.specs.Result.{refused}
use Rattle.node.specs.Refusals as refusal
use Rattle.node.specs.Entry.{Entry, Val, value_length}
use Rattle.node.specs.Records.{records_length, entries_of}
use Rattle.node.specs.Fit.{padded, data_space, fixed, slot_width, toc_slots, toc_length, keys_length, values_length, room_of, fits, Sized}
use Rattle.node.specs.Slot.{insert_at, revalued, with_value}
use Rattle.node.specs.Cut.{entry_size, size, cut}
use Rattle.node.specs.laws.base.Tests.{by_test}
use Rattle.node.specs.laws.slot.Records.{length_entries, records_size}
use Rattle.node.specs.laws.fit.Fit.{padded_least, room_append, sums_fit}
use Rattle.node.specs.laws.fit.Cut.{nowhere_iff, large_iff}
use Rattle.node.specs.declared.info.BTreeInfo.{BTreeInfo}

-- ---- a node that fits

-- keys and values as packed are no shorter than they are
pub room_least : (t : BTreeInfo) (es : List Entry) → size es ≤ room_of t es + 8 * length es
unfolding room_of keys_length values_length size entry_size
room_least t [] = omega arith
room_least t (e ∷ es) = let h = room_least t es in omega (arith, padded_least t (length e.key), padded_least t (value_length e.value))

-- a contents slot takes at least 4 bytes
pub toc_least : (t : BTreeInfo) (root : Bool) (level n : ℕ) → n ≤ toc_slots t root level n → 4 * n ≤ toc_length t root level n
unfolding toc_length slot_width
toc_least t root level n h = by_test (fixed t) (λ z. rw z (omega arith)) (λ z. rw z (omega arith))

-- entries that fit: keys, values and 4 bytes for each are within the space
pub fits_size : (t : BTreeInfo) (root : Bool) (level : ℕ) (es : List Entry) → fits t root level es ≡ true
    → size es ≤ data_space t.node_size root + 4 * length es
unfolding fits
fits_size t root level es h =
    let p = sums_fit t root level (length es) (room_of t es) h in
    omega (arith, p.1, room_least t es, toc_least t root level (length es) p.0)

-- the records of a node that fits take less than its block
pub fits_records : (t : BTreeInfo) (root : Bool) (level n : ℕ) (l : List ℕ) → records_length n l ≤ length l
    → fits t root level (entries_of n l) ≡ true
    → records_length n l ≤ t.node_size - 56
unfolding data_space
fits_records t root level n l h f = omega (arith, fits_size t root level (entries_of n l) f, records_size n l h, length_entries n l)

-- ---- an entry of more than a block's space

module _ (t : BTreeInfo) (e : Entry) (large : t.node_size - 56 < length e.key + value_length e.value) where
  own : (post : List Entry) → padded t (length e.key) + padded t (value_length e.value) ≤ room_of t (e ∷ post)
  unfolding room_of keys_length values_length
  own post = omega arith

  -- it fits in no node
  pub large_fits : (root : Bool) (level : ℕ) (pre post : List Entry) → fits t root level (pre ++ (e ∷ post)) ≡ true → ⊥
  unfolding fits data_space
  large_fits root level pre post h =
      let es : List Entry = pre ++ (e ∷ post) in
      let p = sums_fit t root level (length es) (room_of t es) h in
      let r : padded t (length e.key) + padded t (value_length e.value) ≤ room_of t (e ∷ post) = own post in
      omega (arith, p.1, room_append t pre (e ∷ post), r, padded_least t (length e.key), padded_least t (value_length e.value))

  pub large_unfit : (root : Bool) (level : ℕ) (pre post : List Entry) → fits t root level (pre ++ (e ∷ post)) ≡ false
  large_unfit root level pre post = by_test (fits t root level (pre ++ (e ∷ post))) (λ z. absurd (large_fits root level pre post z)) (λ z. z)

  -- alone it is 13
  pub large_alone : (level : ℕ) → cut t level (e ∷ []) ≡ refused refusal.single
  large_alone level = (large_iff t level (e ∷ [])).1 (omega arith)

  -- beside others 14: whichever part it is in does not fit
  pub large_beside : (level : ℕ) (pre post : List Entry) → 1 < length (pre ++ (e ∷ post)) → cut t level (pre ++ (e ∷ post)) ≡ refused refusal.no_cut
  large_beside level pre post many = (nowhere_iff t level (pre ++ (e ∷ post)) many).1 (λ c a b f g. parts c f g)
    where
      parts : (c : ℕ) → fits t false level (take c (pre ++ (e ∷ post))) ≡ true → fits t false level (drop c (pre ++ (e ∷ post))) ≡ true → ⊥
      parts c f g =
          by_test (leb c (length pre))
          (λ z.
          let h : c ≤ length pre = leb-true c (length pre) z in
          let q : drop c (pre ++ (e ∷ post)) ≡ drop c pre ++ (e ∷ post) = drop-append-le c pre (e ∷ post) h in
          large_fits false level (drop c pre) post (rw q at g))
          (λ z.
          let h : length pre < c = leb-false c (length pre) z in
          let m : c ≡ length pre + suc (c - length pre - 1) = omega arith in
          let q : take c (pre ++ (e ∷ post)) ≡ pre ++ (e ∷ take (c - length pre - 1) post) = ap (λ (k : ℕ). take k (pre ++ (e ∷ post))) m
          ∙ take-append-add pre (e ∷ post) (suc (c - length pre - 1)) in
          large_fits false level pre (take (c - length pre - 1) post) (rw q at f))

  -- put among others
  pub large_inserted : (level i : ℕ) (es : List Entry) → 1 ≤ length es → cut t level (insert_at i e es) ≡ refused refusal.no_cut
  unfolding insert_at
  large_inserted level i es some =
      let a : length (take i es ++ drop i es) ≡ length es = ap length (take-append-drop i es) in
      let b = length-append (take i es) (drop i es) in
      let c = length-append (take i es) (e ∷ drop i es) in
      let d : length (e ∷ drop i es) ≡ suc (length (drop i es)) = refl in
      large_beside level (take i es) (drop i es) (omega arith)

-- entry i with another value, among those before it and after it
pub valued_among : (i : ℕ) (v : Val) (es post : List Entry) (x : Entry) → drop i es ≡ x ∷ post → with_value i v es ≡ take i es ++
    (record { key = x.key; value = v } ∷ post)
unfolding with_value revalued
valued_among i v es post x h = ap (λ (y : List Entry). take i es ++ revalued v y) h

-- ---- what a record cannot hold is larger than any block's space

pub key_large : (t : BTreeInfo) (e : Entry) → Sized t → 2 ^ 16 ≤ length e.key → t.node_size - 56 < length e.key + value_length e.value
key_large t e s h = omega (arith, s.most)

pub value_large : (t : BTreeInfo) (e : Entry) → Sized t → 0xFFFC < value_length e.value → t.node_size - 56 < length e.key + value_length
    e.value
value_large t e s h = omega (arith, s.most)
