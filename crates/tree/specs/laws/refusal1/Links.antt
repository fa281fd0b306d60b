-- Laws of the pass of refusal 1: one for each turn and each way out. Assumes nothing.
use Rattle.std.specs.Prelude.{◌≡◌, refl, Bool, true, false, not, ℕ, ◌+◌, ◌^◌, ◌≤◌, ◌<◌}
use Rattle.std.proofs.Math.Path.{sym, ap}
use Rattle.std.proofs.Common.{◌∙◌}
use mathlib.Core.List.{List, []}
use native.Mathlib.Omega.{arith}
use Rattle.std.proofs.Math.ListN.{length, drop, drop_of_length-le}
use Rattle.std.proofs.Math.Dec.{eqb}
use borrow.Author.Tests.{le-leb, lt-leb, leb-true, not-true, not-false}
use Rattle.node.specs.laws.base.Tests.{and_split}
use Rattle.node.specs.Result.{Result, ◌>>=◌}
use Rattle.node.specs.Entry.{Entry, Val, ghost, leaf, disk, mem}
use Rattle.node.specs.Records.{records_length, entry_of, entries_of}
use Rattle.node.specs.Fit.{room_of}
use Rattle.node.specs.internal.SlotSteps.{lengths_of, records_stand, checked_of}
use Rattle.node.specs.laws.fit.Fit.{lengths_room, count_small}
use Rattle.node.specs.laws.slot.Records.{length_entries, entries_head}
use Rattle.node.specs.Slot.{records_hold}
use Rattle.node.specs.laws.fit.Pass.{checked_stands, checked_lengths, checked_not}
use Rattle.node.specs.declared.head.Head.{Head}
use Rattle.node.specs.declared.fit.Lengths.{Lengths}
use Rattle.tree.specs.internal.Kids.{slots_of, kid_means}
use Rattle.tree.specs.laws.slots.Kids.{kid_slot}
use Rattle.tree.specs.internal.Marks.{mark_of, mark_slot, mark_value}
use Rattle.tree.specs.internal.Holding.{count_holds, place_holds, body_holds, child_stands, if_holds, link_value, link_entries}
use Rattle.tree.specs.declared.editor.Tree.{Tree}
use Rattle.std.specs.Prelude.{Some, None, Option}

-- ---- a node but for its children

module _ (t : Tree) (n : ℕ) (h : Head) (l : List ℕ) where
  pub body_high : 32 < h.level → false ≡ body_holds t n h l
  unfolding body_holds
  body_high q = rw (lt-leb h.level 32 q)

  module _ (a : h.level ≤ 32) (k : Bool) (ek : k ≡ count_holds h.level h.count) where
    pub body_empty : not k ≡ true → false ≡ body_holds t n h l
    unfolding body_holds
    body_empty q = rw (le-leb h.level 32 a, ← ek, not-true k q)

    module _ (b : not k ≡ false) (x : Option Lengths) (ex : x ≡ checked_of t.order.code t.info (eqb h.level 0) h.count h.used l) where
      pub body_not : x ≡ None → false ≡ body_holds t n h l
      unfolding body_holds
      body_not q = rw (
        le-leb h.level 32 a,
        ← ek,
        not-false k b,
        checked_not t.order.code t.info (eqb h.level 0) h.count h.used l
            (sym q ∙ ex),
      )

      module _ (s : Lengths) (q : x ≡ Some s) where
        lengths : s ≡ lengths_of t.info h.count l
        lengths = checked_lengths t.order.code t.info (eqb h.level 0) h.count h.used l s (sym q ∙ ex)

        stand : records_stand t.order.code t.info (eqb h.level 0) h.count h.used l ≡ true
        stand = checked_stands t.order.code t.info (eqb h.level 0) h.count h.used l s (sym q ∙ ex)

        lie : records_length h.count l ≤ length l
        unfolding records_stand records_hold
        lie = leb-true (records_length h.count l) (length l) (and_split _ _ (and_split _ _ (and_split _ _ stand).0).0).0

        pub body_sum : length l ≤ 2 ^ 20 → s.keys + s.values < 2 ^ 32
        body_sum m = let z : s.keys + s.values < 2 ^ 24 = lengths_room t.info h.count h.count l s lengths
            (omega arith) lie m in omega arith

        pub body_count : length l ≤ 2 ^ 20 → h.count < 2 ^ 32
        body_count m = count_small h.count l lie m

        pub body_place : (r root : Bool) → root ≡ eqb n t.root → r ≡ place_holds t root h (s.keys + s.values) → r ≡ body_holds t n h l
        unfolding body_holds room_of lengths_of
        body_place r root er e =
            let z : body_holds t n h l ≡ place_holds t (eqb n t.root) h (room_of t.info (entries_of h.count l)) = rw
            (le-leb h.level 32 a, ← ek, not-false k b, stand) in
            e ∙ rw er (ap (λ (y : Lengths). place_holds t (eqb n t.root) h (y.keys + y.values)) lengths) ∙ sym z

-- ---- one value

module _ (heads : List ℕ) (used level : ℕ) (ms : List ℕ) (kid : Option ℕ) (v : Val) (ek : kid_means kid ≡ slots_of v) where
  -- what is no child in a slot has nothing to mark
  other : (w : Val) → [] ≡ slots_of w → mark_of true ms ≡ link_value heads used level w ms
  unfolding slots_of link_value mark_of
  other ghost e = refl
  other (leaf a) e = refl
  other (disk r) e = refl
  other (mem s) e = let y : ◌≡◌ {A = ℕ} 0 1 = ap length e in absurd (omega arith)

  pub link_other : kid ≡ None → mark_of true ms ≡ link_value heads used level v ms
  unfolding kid_means
  link_other e = other v (rw e at ek)

  module _ (s : ℕ) (e : kid ≡ Some s) (k : Bool) (es : k ≡ child_stands heads used level s) where
    pub link_no : k ≡ false → mark_of false ms ≡ link_value heads used level v ms
    unfolding link_value if_holds mark_of
    link_no q = rw (kid_slot kid s v ek e, ← es, q)

    pub link_mem : k ≡ true → (x : Result (List ℕ)) → x ≡ mark_slot used s ms → x ≡ link_value heads used level v ms
    unfolding link_value if_holds mark_value
    link_mem q x y = rw (kid_slot kid s v ek e, ← es, q) y

-- ---- the entries of a slot, from entry i on

module _ (heads : List ℕ) (used level n : ℕ) (l ms : List ℕ) where
  pub links_start : link_entries heads used level (drop 0 (entries_of n l)) ms ≡ link_entries heads used level (entries_of n l) ms
  links_start = refl

  module _ (i at : ℕ) (ks ks' : List ℕ) (t : Bool) (hi : i < n) (ea : at ≡ records_length i l)
      (inv : link_entries heads used level (drop i (entries_of n l)) ks ≡ link_entries heads used level (entries_of n l) ms)
      (et : mark_of t ks' ≡ link_value heads used level (entry_of (drop at l)).value ks) where
    link_turn : (mark_of t ks' >>= link_entries heads used level (drop (i + 1) (entries_of n l))) ≡ link_entries heads used level (entries_of n l) ms
    unfolding link_entries
    link_turn =
        ap (λ (x : Result (List ℕ)). x >>= link_entries heads used level (drop (i + 1) (entries_of n l))) et
        ∙ sym (ap (λ (x : List Entry). link_entries heads used level x ks) (entries_head i n at l hi ea)) ∙ inv

    pub links_no : not t ≡ true → mark_of false ks' ≡ link_entries heads used level (entries_of n l) ms
    unfolding mark_of
    links_no q = ap (λ (b : Bool). mark_of b ks' >>= link_entries heads used level (drop (i + 1) (entries_of n l))) (sym (not-true t q)) ∙ link_turn

    pub links_next : not t ≡ false → link_entries heads used level (drop (i + 1) (entries_of n l)) ks'
        ≡ link_entries heads used level (entries_of n l) ms
    unfolding mark_of
    links_next q = ap (λ (b : Bool). mark_of b ks' >>= link_entries heads used level (drop (i + 1) (entries_of n l))) (sym (not-false t q))
        ∙ link_turn

  pub links_end : (i : ℕ) (ks : List ℕ) → n ≤ i → link_entries heads used level (drop i (entries_of n l)) ks ≡ link_entries heads used level
      (entries_of n l) ms
      → mark_of true ks ≡ link_entries heads used level (entries_of n l) ms
  unfolding mark_of link_entries
  links_end i ks h inv =
      let q : length (entries_of n l) ≤ i = omega (arith, length_entries n l) in
      let z : drop i (entries_of n l) ≡ [] = drop_of_length-le (entries_of n l) q in
      sym (ap (λ (x : List Entry). link_entries heads used level x ks) z) ∙ inv

pub ruleset link_value_laws = (link_other, link_no, link_mem)

pub ruleset body_holds_laws = (body_high, body_empty, body_not, body_sum, body_count, body_place)

pub ruleset link_entries_laws = (links_start, links_no, links_next, links_end)
