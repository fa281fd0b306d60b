-- Laws of the entries between two ends: counted, and written out record by record. Assumes nothing.
use Rattle.std.specs.Prelude.{◌≡◌, refl, List, [], ◌∷◌, ◌++◌, Bool, ℕ, ◌+◌, ◌-◌, ◌≤◌, ◌<◌, ◌^◌, length, take, drop, leb}
use Rattle.std.proofs.Math.Path.{sym, ap}
use Rattle.std.proofs.Common.{ap₂, ◌∙◌, append_assoc, add_assoc, arith, length-append, length-take, length-drop, drop_of_length-le, take-append-drop, length-take-le, take_at, drop-drop}
use Rattle.std.proofs.Math.Bool.{true, false}
use Rattle.std.proofs.Math.Seq.{drop-append-add}
use borrow.Author.Tests.{le-leb, leb-true, leb-false}
use Rattle.node.specs.Bytes.{splice}
use Rattle.node.specs.Entry.{Entry}
use Rattle.node.specs.Records.{record_length, records_length, record_of, records_of, entry_of, entries_of}
use Rattle.node.specs.laws.base.Tests.{by_test}
use Rattle.node.specs.laws.slot.Slot.{at_lies}
use Rattle.node.specs.laws.base.Bytes.{Bytes, bytes_drop}
use Rattle.node.specs.laws.slot.Records.{entries_head, length_entries, records_least, records_less, length_record, length_value_bytes, entry_key_length}
use Rattle.node.specs.laws.slot.Records.{entry_value_length, record_whole, record_sum}
use Rattle.tree.specs.Lookup.{between}
use Rattle.tree.specs.internal.Range.{lies_between, most, at_most, found_in}
use Rattle.tree.specs.declared.editor.Tree.{Tree}

-- ---- sums that are cut off

pub most_small : (n : ℕ) → n ≤ most → at_most n ≡ n
unfolding at_most
most_small n h = rw (le-leb n most h)

pub most_large : (n : ℕ) → most ≤ n → at_most n ≡ most
unfolding at_most
most_large n h = by_test (leb n most) (λ t. rw t (let k = leb-true n most t in omega arith)) (λ t. rw t)

pub most_most : (n : ℕ) → at_most n ≤ most
most_most n =
    by_test (leb n most)
    (λ t. let h = leb-true n most t in omega (arith, most_small n h))
    (λ t. let h = leb-false n most t in omega (arith, most_large n (omega arith)))

-- a sum of two, each cut off first
pub most_both : (a b : ℕ) → at_most (at_most a + at_most b) ≡ at_most (a + b)
most_both a b =
    by_test (leb (a + b) most)
    (λ t.
    let h : a + b ≤ most = leb-true (a + b) most t in
    ap₂ (λ (x y : ℕ). at_most (x + y)) (most_small a (omega arith)) (most_small b (omega arith)))
    (λ t.
    let h : most < a + b = leb-false (a + b) most t in
    let z : most ≤ at_most a + at_most b =
    by_test (leb a most)
    (λ u. by_test (leb b most)
    (λ v. omega (arith, most_small a (leb-true a most u), most_small b (leb-true b most v)))
    (λ v. let k = leb-false b most v in omega (arith, most_large b (omega arith))))
    (λ u. let k = leb-false a most u in omega (arith, most_large a (omega arith))) in
    most_large (at_most a + at_most b) z ∙ sym (most_large (a + b) (omega arith)))

-- ---- runs replaced

pub splice_two : (l : List ℕ) (i : ℕ) (a b : List ℕ) → i + length a + length b ≤ length l → splice (splice l i a) (i + length a) b ≡ splice l i
    (a ++ b)
unfolding splice
splice_two l i a b h =
    let p : List ℕ = take i l ++ a in
    let r : List ℕ = drop (i + length a) l in
    let e : length p ≡ i + length a = simp (length-append, length-take) (omega arith) in
    ap (λ (q : List ℕ). q ++ b ++ drop (i + length a + length b) (p ++ r)) (take_at p r (i + length a) e)
    ∙ ap (λ (q : List ℕ). p ++ b ++ q) (ap (λ (k : ℕ). drop (k + length b) (p ++ r)) (sym e) ∙ drop-append-add p r (length b)
    ∙ drop-drop (length b) (i + length a) l)
    ∙ simp (append_assoc, length-append, add_assoc)

pub splice_none : (l : List ℕ) (i : ℕ) → splice l i [] ≡ l
unfolding splice
splice_none l i = let z : i + 0 ≡ i = omega arith in simp append_assoc (ap (λ (k : ℕ). take i l ++ drop k l) z ∙ take-append-drop i l)

pub records_append : (x y : List Entry) → records_of (x ++ y) ≡ records_of x ++ records_of y
unfolding records_of
records_append [] y = refl
records_append (e ∷ x) y = ap (λ (r : List ℕ). record_of e ++ r) (records_append x y) ∙ sym (append_assoc (record_of e) (records_of x) (records_of y))

-- ---- the records of a slot, from record i on

module _ (o : ℕ) (lo : List ℕ) (hi : List (List ℕ)) (n : ℕ) (l : List ℕ) (lies : records_length n l ≤ length l) (i at : ℕ) (hin : i < n)
    (ea : at ≡ records_length i l) (t : Bool) (et : t ≡ lies_between o lo hi (entry_of (drop at l)).key) where
  rest : drop i (entries_of n l) ≡ entry_of (drop at l) ∷ drop (i + 1) (entries_of n l)
  rest = entries_head i n at l hin ea

  module _ (h : t ≡ false) where
    between_passed : between o lo hi (drop i (entries_of n l)) ≡ between o lo hi (drop (i + 1) (entries_of n l))
    unfolding between lies_between
    between_passed = let z : lies_between o lo hi (entry_of (drop at l)).key ≡ false = sym et ∙ h in rw (rest, z)

    pub count_passed : (count whole : ℕ) → count + length (between o lo hi (drop i (entries_of n l))) ≡ whole
        → count + length (between o lo hi (drop (i + 1) (entries_of n l))) ≡ whole
    count_passed count whole e = rw between_passed at e

    pub length_passed : (k whole : ℕ) → k + length (records_of (between o lo hi (drop i (entries_of n l)))) ≡ whole
        → k + length (records_of (between o lo hi (drop (i + 1) (entries_of n l)))) ≡ whole
    length_passed k whole e = rw between_passed at e

    pub write_passed : (out : List ℕ) (k : ℕ) (w : List ℕ) → splice out k (records_of (between o lo hi (drop i (entries_of n l)))) ≡ w
        → splice out k (records_of (between o lo hi (drop (i + 1) (entries_of n l)))) ≡ w
    write_passed out k w e = rw between_passed at e

  module _ (h : t ≡ true) where
    between_taken : between o lo hi (drop i (entries_of n l)) ≡ entry_of (drop at l) ∷ between o lo hi (drop (i + 1) (entries_of n l))
    unfolding between lies_between
    between_taken = let z : lies_between o lo hi (entry_of (drop at l)).key ≡ true = sym et ∙ h in rw (rest, z)

    pub count_taken : (count whole : ℕ) → count + length (between o lo hi (drop i (entries_of n l))) ≡ whole
        → count + 1 + length (between o lo hi (drop (i + 1) (entries_of n l))) ≡ whole
    count_taken count whole e = let z = ap length between_taken in omega arith

    inside : at + record_length (drop at l) ≤ length l
    inside = at_lies l n i at lies hin ea

    fits : record_length (drop at l) ≤ length (drop at l)
    fits = rw length-drop (let z = inside in omega arith)

    -- a record's length, by its bytes and by its head
    record_long : length (record_of (entry_of (drop at l))) ≡ record_length (drop at l)
    record_long =
        length_record (entry_of (drop at l))
        ∙ omega (
          arith,
          entry_key_length (drop at l) fits,
          entry_value_length (drop at l) fits,
          length_value_bytes (entry_of (drop at l)).value,
          record_sum
              (drop at l),
        )

    records_taken : records_of (between o lo hi (drop i (entries_of n l))) ≡ record_of (entry_of (drop at l)) ++ records_of
        (between o lo hi (drop (i + 1) (entries_of n l)))
    unfolding records_of
    records_taken = ap records_of between_taken

    module _ (next : ℕ) (en : next ≡ at + record_length (drop at l)) where
      more : length (records_of (between o lo hi (drop i (entries_of n l)))) ≡ (next - at) + length
          (records_of (between o lo hi (drop (i + 1) (entries_of n l))))
      more =
          let z = ap length records_taken in
          let y = length-append (record_of (entry_of (drop at l))) (records_of (between o lo hi (drop (i + 1) (entries_of n l)))) in
          omega (arith, record_long)

      pub length_taken : (k whole : ℕ) → k + length (records_of (between o lo hi (drop i (entries_of n l)))) ≡ whole
          → k + (next - at) + length (records_of (between o lo hi (drop (i + 1) (entries_of n l)))) ≡ whole
      length_taken k whole e = omega (arith, more)

      part_long : length (take (next - at) (drop at l)) ≡ next - at
      part_long = length-take-le (next - at) (drop at l) (let z = fits in omega arith)

      module _ (out out₀ : List ℕ) (k whole : ℕ) (e : k + length (records_of (between o lo hi (drop i (entries_of n l)))) ≡ whole)
          (same : length out ≡ length out₀) (room : whole ≤ length out₀) where
        pub write_room : k + length (take (next - at) (drop at l)) ≤ length out
        write_room = omega (arith, more, part_long)

        pub write_taken : (out₁ w : List ℕ) → Bytes l → out₁ ≡ splice out k (take (next - at) (drop at l))
            → splice out k (records_of (between o lo hi (drop i (entries_of n l)))) ≡ w
            → splice out₁ (k + (next - at)) (records_of (between o lo hi (drop (i + 1) (entries_of n l)))) ≡ w
        write_taken out₁ w b x y =
            let c : next - at ≡ record_length (drop at l) = omega arith in
            let part : List ℕ = take (next - at) (drop at l) in
            let a : record_of (entry_of (drop at l)) ≡ part = record_whole (drop at l) fits (bytes_drop at l b)
            ∙ ap (λ (z : ℕ). take z (drop at l)) (sym c) in
            let rs : List ℕ = records_of (between o lo hi (drop (i + 1) (entries_of n l))) in
            ap₂ (λ (q : List ℕ) (z : ℕ). splice q (k + z) rs) x (sym part_long)
            ∙ splice_two out k part rs (omega (arith, more, part_long))
            ∙ ap (splice out k) (ap (λ (q : List ℕ). q ++ rs) (sym a) ∙ sym records_taken) ∙ y

-- ---- as the loops have it

none_left : (o : ℕ) (lo : List ℕ) (hi : List (List ℕ)) (n i : ℕ) (l : List ℕ) → n ≤ i → between o lo hi (drop i (entries_of n l)) ≡ []
unfolding between
none_left o lo hi n i l h =
    let z : drop i (entries_of n l) ≡ [] = drop_of_length-le (entries_of n l) {i = i} (omega (arith, length_entries n l)) in
    ap (between o lo hi) z

pub count_start : (x : ℕ) → 0 + x ≡ x
count_start x = omega arith

pub sums_are : (o : ℕ) (lo : List ℕ) (hi : List (List ℕ)) (n i at count long : ℕ) (l : List ℕ)
    → records_length n l ≤ length l → length l ≤ 2 ^ 20 → i ≤ n → n ≤ i → at ≡ records_length i l → count ≤ i → long ≤ at → (es : List Entry)
    → count + length (between o lo hi (drop i (entries_of n l))) ≡ length es
    → long + length (records_of (between o lo hi (drop i (entries_of n l)))) ≡ length (records_of es)
    → (t : Tree) → record { tree = t; count = count; length = long } ≡ found_in t es
unfolding found_in records_of
sums_are o lo hi n i at count long l lies short a b g c d es e f t =
    let z : between o lo hi (drop i (entries_of n l)) ≡ [] = none_left o lo hi n i l b in
    let x : length es ≡ count = sym e ∙ omega (arith, ap length z) in
    let y : length (records_of es) ≡ long = sym f ∙ omega (arith, ap (λ (q : List Entry). length (records_of q)) z) in
    let p : count ≤ most = omega (arith, records_least n l) in
    let q : long ≤ most = omega (arith, records_less i n l a) in
    sym (rw (x, y, most_small count p, most_small long q))

pub write_ends : (o : ℕ) (lo : List ℕ) (hi : List (List ℕ)) (n i k whole : ℕ) (l : List ℕ) → n ≤ i
    → k + length (records_of (between o lo hi (drop i (entries_of n l)))) ≡ whole → k ≡ whole
unfolding records_of
write_ends o lo hi n i k whole l h e = omega (arith, ap (λ (q : List Entry). length (records_of q)) (none_left o lo hi n i l h))

pub write_done : (o : ℕ) (lo : List ℕ) (hi : List (List ℕ)) (n i k : ℕ) (l out w : List ℕ) → n ≤ i
    → splice out k (records_of (between o lo hi (drop i (entries_of n l)))) ≡ w → out ≡ w
unfolding records_of
write_done o lo hi n i k l out w h e =
    sym (splice_none out k) ∙ sym (ap (λ (q : List Entry). splice out k (records_of q)) (none_left o lo hi n i l h)) ∙ e
