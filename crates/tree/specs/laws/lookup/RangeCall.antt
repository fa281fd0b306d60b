-- Laws of range as a call: loaded and counted, then written out; refused, every slot is as it was. Assumes nothing.
use Rattle.std.specs.Prelude.{◌≡◌, Bool, true, false, ℕ, ◌+◌, ◌*◌, ◌≤◌, ◌<◌, drop, leb}
use Rattle.std.proofs.Math.Path.{refl, sym, ap, ap₂}
use Rattle.std.proofs.Common.{subst, ◌∙◌, arith}
use mathlib.Core.List.{List, [], ◌∷◌, append-nil}
use Rattle.std.proofs.Math.ListN.{length, take}
use Rattle.std.proofs.Math.Seq.{take-append_seam}
use borrow.Author.Tests.{le-leb, lt-leb}
use Rattle.node.specs.Bytes.{splice}
use Rattle.node.specs.Result.{Result, ok, refused, ◌>>◌, check}
use Rattle.node.specs.Refusals as refusal
use Rattle.node.specs.Order.{keyed_length, keyed}
use Rattle.node.specs.Entry.{Entry}
use Rattle.node.specs.Records.{records_of, records_length, entries_of}
use Rattle.node.specs.laws.base.Results.{no_answer}
use Rattle.node.specs.laws.base.Bytes.{Bytes}
use Rattle.node.specs.laws.slot.Records.{Storables, entries_back, records_back}
use Rattle.tree.specs.Lent.{lent_of}
use Rattle.tree.specs.State.{State, node_at}
use Rattle.tree.specs.Load.{unbounded}
use Rattle.tree.specs.Lookup.{Got, range_from, range_in}
use Rattle.tree.specs.Trust.{trusted}
use Rattle.tree.specs.Workspace.{state_of}
use Rattle.tree.specs.Answers.{range_means, ranged_output}
use Rattle.tree.specs.internal.Bank.{Ready}
use Rattle.tree.specs.internal.Room.{Roomy}
use Rattle.tree.specs.internal.Tree.{bound_of, bounds_of}
use Rattle.tree.specs.internal.Range.{Sum, end_of, sum_of, counted, ranged_of, range_held, range_way}
use Rattle.tree.specs.laws.lookup.Between.{most_small}
use Rattle.tree.specs.laws.lookup.RangeCount.{range_load, Found, counted_found}
use Rattle.tree.specs.laws.lookup.RangeHeld.{held_again, range_storable}
use Rattle.tree.specs.laws.lookup.RangeSums.{range_small, range_few}
use Rattle.tree.specs.declared.lent.Lent.{Lent}
use Rattle.tree.specs.declared.editor.Tree.{Tree}
use Rattle.tree.specs.declared.range.Ranged.{Ranged}
use Rattle.std.specs.Prelude as std
use Rattle.std.specs.Prelude.{Ok, Err, Some, None}
use Rattle.std.specs.Borrow.{Bor}
use Rattle.node.specs.declared.refusal.Refusal.{Refusal}
use Rattle.node.specs.declared.refusal.Refusal.TheVariants as is

-- ---- loaded and counted, then 20, then written out

counted_refused : (r : Result (Got Entry)) (y : ℕ) → refused y ≡ counted r → r ≡ refused y
unfolding counted
counted_refused (refused x) y e = cc
counted_refused (ok g) y e = no_answer y _ e

module _ (image : List ℕ) (l : Lent) (t : Tree) (h0 b0 : List ℕ) (level : ℕ) (ev : level ≡ (node_at (state_of l.size t h0 b0) t.root).level)
    (lo h1 b1 : List ℕ) (end : Bor (List ℕ)) (x : std.Result Ranged Refusal)
    (e : ranged_of l.size h1 b1 x ≡ counted (range_from level (lent_of image l) lo (end_of (Some end)) (state_of l.size t h0 b0)
    (bounds_of (state_of l.size t h0 b0) (record { lower = None; upper = None })) t.root)) where
  abbrev s : State
  s = state_of l.size t h0 b0

  whole : Result (Got Entry)
  whole = range_from (node_at s s.root).level (lent_of image l) lo (end.now ∷ []) s unbounded s.root

  root_is : s.root ≡ t.root
  unfolding state_of
  root_is = refl

  level_is : (node_at s s.root).level ≡ level
  level_is = ap (λ (n : ℕ). (node_at s n).level) root_is ∙ sym ev

  from_is : range_from level (lent_of image l) lo (end_of (Some end)) s (bounds_of s (record { lower = None; upper = None })) t.root ≡ whole
  unfolding end_of whole bounds_of bound_of unbounded
  from_is = sym (ap₂ (λ (d n : ℕ). range_from d (lent_of image l) lo (end.now ∷ []) s unbounded n) level_is root_is)

  counted_is : ranged_of l.size h1 b1 x ≡ counted whole
  counted_is = e ∙ ap counted from_is

  module _ (y : Refusal) (q : x ≡ Err y) where
    refused_is : (room : ℕ) → range_way (lent_of image l) (state_of l.size t h0 b0) room lo end.now ≡ refused (refusal.number_of y)
    unfolding range_way ranged_of whole
    refused_is room = rw (counted_refused whole (refusal.number_of y) (sym (ap (ranged_of l.size h1 b1) q) ∙ counted_is))

    pub way_refused : (out : List ℕ) → range_means l.size h1 b1 out (Err y)
        ≡ range_way (lent_of image l) (state_of l.size t h0 b0) (length out) lo end.now
    unfolding range_means
    way_refused out = sym (refused_is (length out))

    pub way_refused_same : (out : List ℕ) → out ≡ ranged_output out (range_way (lent_of image l) (state_of l.size t h0 b0) (length out) lo end.now)
    unfolding ranged_output
    way_refused_same out = sym (ap (ranged_output out) (refused_is (length out)))

  module _ (r : Ranged) (q : x ≡ Ok r) (tr : trusted (lent_of image l) (state_of l.size t h0 b0) ≡ true)
      (rm : Roomy (2 * l.size) (state_of l.size t h0 b0)) where
    abbrev s' : State
    s' = state_of l.size r.tree h1 b1

    found : Found whole (state_of l.size r.tree h1 b1) (record { count = r.count; length = r.length })
    unfolding ranged_of
    found = counted_found whole s' (record { count = r.count; length = r.length }) (sym (ap (ranged_of l.size h1 b1) q) ∙ counted_is)

    es : List Entry
    es = found.got.answer

    -- neither sum was cut off
    count_is : length es ≡ r.count
    unfolding whole es sum_of lent_of
    count_is =
        let few = range_few (lent_of image l) s lo (end.now ∷ []) found.got tr rm found.found in
        sym (most_small (length found.got.answer) (omega arith)) ∙ ap (λ (y : Sum). y.count) found.sum

    length_is : length (records_of es) ≡ r.length
    unfolding whole es sum_of lent_of
    length_is =
        let small = range_small (lent_of image l) s lo (end.now ∷ []) found.got tr rm found.found in
        sym (most_small (length (records_of found.got.answer)) (omega arith)) ∙ ap (λ (y : Sum). y.length) found.sum

    way_is : (room : ℕ) → range_way (lent_of image l) (state_of l.size t h0 b0) room lo end.now
        ≡ (check refusal.output (leb r.length room) >> ok (record { state = state_of l.size r.tree h1 b1; answer = es }))
    unfolding range_way whole es
    way_is room =
        let z : ok found.got ≡ ok (record { state = s'; answer = found.got.answer }) = ap
        (λ (y : State). ok (record { state = y; answer = found.got.answer })) found.state in
        rw found.found (ap₂ (λ (i : ℕ) (y : Result (Got Entry)). check refusal.output (leb i room) >> y) length_is z)

    root_same : r.tree.root ≡ s.root
    unfolding state_of whole
    root_same = sym (ap (λ (y : State). y.root) found.state)
        ∙ ((range_load (node_at s s.root).level (lent_of image l) lo (end.now ∷ []) s unbounded s.root).at found.got found.found).root

    held_is : range_held level (state_of l.size r.tree h1 b1) lo (end_of (Some end)) r.tree.root ≡ es
    unfolding end_of whole es
    held_is =
        ap₂ (λ (d n : ℕ). range_held d s' lo (end.now ∷ []) n) (sym level_is) root_same
        ∙ ap (λ (y : State). range_held (node_at s s.root).level y lo (end.now ∷ []) s.root) (sym found.state)
        ∙ held_again (lent_of image l) lo (end.now ∷ []) s found.got tr found.found

    module _ (out : List ℕ) (n : length out < r.length) where
      short_is : range_way (lent_of image l) (state_of l.size t h0 b0) (length out) lo end.now ≡ refused 20
      short_is = way_is (length out) ∙ rw (lt-leb r.length (length out) n)

      pub way_short : range_means l.size h1 b1 out (Err is.Output) ≡ range_way (lent_of image l) (state_of l.size t h0 b0) (length out) lo end.now
      unfolding range_means
      way_short = sym short_is

      pub way_short_same : out ≡ ranged_output out (range_way (lent_of image l) (state_of l.size t h0 b0) (length out) lo end.now)
      unfolding ranged_output
      way_short_same = sym (ap (ranged_output out) short_is)

    module _ (out : List ℕ) (n : r.length ≤ length out) where
      pub way_room : 0 + length (records_of (range_held level (state_of l.size r.tree h1 b1) lo (end_of (Some end)) r.tree.root)) ≤ length out
      way_room = omega (arith, ap (λ (y : List Entry). length (records_of y)) held_is, length_is)

      done_is : range_way (lent_of image l) (state_of l.size t h0 b0) (length out) lo end.now ≡ ok
          (record { state = state_of l.size r.tree h1 b1; answer = es })
      done_is = way_is (length out) ∙ rw (le-leb r.length (length out) n)

      module _ (out' : List ℕ) (w : out' ≡ splice out 0 (records_of
          (range_held level (state_of l.size r.tree h1 b1) lo (end_of (Some end)) r.tree.root))) where
        out_is : out' ≡ splice out 0 (records_of es)
        out_is = w ∙ ap (λ (y : List Entry). splice out 0 (records_of y)) held_is

        pub way_output : out' ≡ ranged_output out (range_way (lent_of image l) (state_of l.size t h0 b0) (length out) lo end.now)
        unfolding ranged_output
        way_output = out_is ∙ sym (ap (ranged_output out) done_is)

        module _ (slots : ℕ) (y : Ready l.size slots r.tree.used h1 b1) (bs : Bytes b1) where
          storable : Storables es
          storable = subst Storables held_is (range_storable l.size slots r.tree h1 b1 y bs level lo (end_of (Some end)) r.tree.root)

          front : take r.length out' ≡ records_of es
          unfolding splice
          front = ap₂ take (sym length_is) out_is ∙ take-append_seam (records_of es) (drop (0 + length (records_of es)) out)

          back : entries_of r.count (take r.length out') ≡ es
          back = ap₂ entries_of (sym count_is) (front ∙ sym (append-nil (records_of es))) ∙ entries_back es [] storable

          pub way_done : range_means l.size h1 b1 out' (Ok r)
              ≡ range_way (lent_of image l) (state_of l.size t h0 b0) (length out) lo end.now
          unfolding range_means
          way_done = ap (λ (y : List Entry). ok (record { state = state_of l.size r.tree h1 b1; answer = y })) back ∙ sym done_is

          pub way_long : r.length ≡ records_length r.count out'
          unfolding splice
          way_long = sym length_is ∙ sym (records_back es (drop (0 + length (records_of es)) out) storable)
              ∙ sym (ap₂ records_length (sym count_is) out_is)

-- ---- 12 of both ends first, marks cleared

module _ (image : List ℕ) (l : Lent) (t : Tree) (h0 b0 lo hi : List ℕ) (a : Bool) (ea : a ≡ keyed_length t.order.code (length lo)) where
  low_is : keyed (state_of l.size t h0 b0).order lo ≡ a
  unfolding state_of keyed
  low_is = sym ea

  module _ (na : a ≡ false) where
    low_no : (room : ℕ) → range_in (lent_of image l) (state_of l.size t h0 b0) room lo hi ≡ refused 12
    unfolding range_in
    low_no room = rw (low_is, na)

    pub in_low : (out : List ℕ) → range_means l.size h0 b0 out (Err is.Argument)
        ≡ range_in (lent_of image l) (state_of l.size t h0 b0) (length out) lo hi
    unfolding range_means
    in_low out = sym (low_no (length out))

    pub in_low_same : (out : List ℕ) → out ≡ ranged_output out (range_in (lent_of image l) (state_of l.size t h0 b0) (length out) lo hi)
    unfolding ranged_output
    in_low_same out = sym (ap (ranged_output out) (low_no (length out)))

  module _ (na : a ≡ true) (c : Bool) (ec : c ≡ keyed_length t.order.code (length hi)) where
    high_is : keyed (state_of l.size t h0 b0).order hi ≡ c
    unfolding state_of keyed
    high_is = sym ec

    module _ (nc : c ≡ false) where
      high_no : (room : ℕ) → range_in (lent_of image l) (state_of l.size t h0 b0) room lo hi ≡ refused 12
      unfolding range_in
      high_no room = rw (low_is, na, high_is, nc)

      pub in_high : (out : List ℕ) → range_means l.size h0 b0 out (Err is.Argument)
          ≡ range_in (lent_of image l) (state_of l.size t h0 b0) (length out) lo hi
      unfolding range_means
      in_high out = sym (high_no (length out))

      pub in_high_same : (out : List ℕ) → out ≡ ranged_output out (range_in (lent_of image l) (state_of l.size t h0 b0) (length out) lo hi)
      unfolding ranged_output
      in_high_same out = sym (ap (ranged_output out) (high_no (length out)))

    module _ (nc : c ≡ true) (room : ℕ) (h b : List ℕ) (same : state_of l.size t h b ≡ state_of l.size t h0 b0) where
      in_is : range_in (lent_of image l) (state_of l.size t h0 b0) room lo hi ≡ range_way (lent_of image l) (state_of l.size t h0 b0) room lo hi
      unfolding range_in range_way
      in_is = rw (low_is, na, high_is, nc)

      pub way_in : range_way (lent_of image l) (state_of l.size t h b) room lo hi ≡ range_in (lent_of image l) (state_of l.size t h0 b0) room lo hi
      way_in = ap (λ (y : State). range_way (lent_of image l) y room lo hi) same ∙ sym in_is

      pub in_output : (o out : List ℕ) → o ≡ ranged_output out (range_way (lent_of image l) (state_of l.size t h b) room lo hi)
          → o ≡ ranged_output out (range_in (lent_of image l) (state_of l.size t h0 b0) room lo hi)
      in_output o out q = q ∙ ap (ranged_output out) way_in

pub ruleset range_in_laws = (in_low, in_low_same, in_high, in_high_same, way_in, in_output)

pub ruleset range_way_laws = (way_refused, way_refused_same, way_short, way_short_same, way_room, way_done, way_long)
