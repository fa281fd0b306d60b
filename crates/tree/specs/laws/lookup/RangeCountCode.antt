-- Laws of range's code as it loads and counts, of the words and bytes that it leaves. Assumes nothing.
use Rattle.std.proofs.Math.Path.{◌≡◌, refl, sym, ap, ap₂}
use Rattle.std.proofs.Common.{subst, ◌∙◌, add-one}
use Rattle.std.specs.Prelude.{List, ◌++◌, Option, Some, None}
use Prim.Native.Nat.{ℕ, suc, ◌+◌, ◌-◌, ◌^◌, ◌≤◌, ◌<◌}
use native.Mathlib.Omega.{arith}
use Rattle.std.proofs.Math.ListN.{length}
use Rattle.node.specs.Result.{Result, ok, refused, ◌>>=◌}
use Rattle.node.specs.Refusals.{number_of}
use Rattle.node.specs.Entry.{Entry}
use Rattle.tree.specs.Lent.{Lent}
use Rattle.tree.specs.State.{State, node_at}
use Rattle.tree.specs.Load as load
use Rattle.tree.specs.Load.{child_bounds, load_child}
use Rattle.tree.specs.Lookup.{Got, between, range_kids, range_from}
use Rattle.tree.specs.Workspace.{slot_bytes, state_of}
use Rattle.tree.specs.internal.Tree.{loaded_of, bounds_of, BoundsIn}
use Rattle.tree.specs.internal.Range.{Sum, most, at_most, sum_of, plus, found_in, both, Counted, counted, ahead, ranged_of, range_child, next_entered}
use Rattle.tree.specs.laws.slots.Tree.{used_nodes}
use Rattle.tree.specs.laws.slots.Records.{count_is, entries_here, records_few}
use Rattle.tree.specs.laws.lookup.Between.{most_most}
use Rattle.tree.specs.internal.Bank.{live, Ready}
use Rattle.node.specs.Slot.{head_at}
use Rattle.node.specs.declared.head.Head.{Head}
use Rattle.tree.specs.laws.trust.Loads.{Loads, load_loads}
use Rattle.tree.specs.laws.load.Way.{loaded_used}
use Rattle.tree.specs.laws.lookup.RangeAgain.{keys_same}
use Rattle.tree.specs.laws.lookup.RangeFirstChild.{First, first_is, kids_none, kids_skipped}
use Rattle.tree.specs.laws.lookup.RangeCount.{child_load, Found, counted_found, plus_nothing, ahead_none, ahead_refused}
use Rattle.tree.specs.laws.lookup.RangeCount.{ahead_more, kids_child}
use Rattle.tree.specs.laws.lookup.FloorLoads.{bounds_more, bounds_loads}
use Rattle.tree.specs.declared.editor.Tree.{Tree}
use Rattle.tree.specs.declared.editor.Position.{Position}
use Rattle.tree.specs.declared.editor.Bounds.{Bounds}
use Rattle.tree.specs.declared.range.Ranged.{Ranged}
use Rattle.std.specs.Prelude as std
use Rattle.std.specs.Prelude.{Ok, Err}
use Rattle.node.specs.declared.refusal.Refusal.{Refusal}

-- ---- a child: loaded and looked into

module _ (l : Lent) (size : ℕ) (t : Tree) (heads bytes : List ℕ) (b : Bounds Position) (n i : ℕ) (h1 b1 : List ℕ) (x : std.Result (Tree × ℕ) Refusal)
    (e : loaded_of size h1 b1 x ≡ load_child l (state_of size t heads bytes) (bounds_of (state_of size t heads bytes) b) n i) where
  abbrev s : State
  s = state_of size t heads bytes

  pub child_refused : (d : ℕ) (lo : List ℕ) (hi : List (List ℕ)) (y : Refusal) → x ≡ Err y → ranged_of size h1 b1 (Err y) ≡ counted
      (range_child (range_from d l lo hi) l (state_of size t heads bytes) (bounds_of (state_of size t heads bytes) b) n i)
  unfolding ranged_of counted range_child loaded_of
  child_refused d lo hi y q =
      let z : load_child l s (bounds_of s b) n i ≡ refused (number_of y) = sym e ∙ ap (loaded_of size h1 b1) q in
      sym (rw z)

  module _ (t' : Tree) (c : ℕ) (q : x ≡ Ok (t', c)) where
    at_is : load_child l s (bounds_of s b) n i ≡ ok (record { state = state_of size t' h1 b1; slot = c })
    unfolding loaded_of
    at_is = sym e ∙ ap (loaded_of size h1 b1) q

    loads : Loads l s (state_of size t' h1 b1)
    loads = load_loads l s (bounds_of s b) n i (record { state = state_of size t' h1 b1; slot = c }) at_is

    pub child_more : t.used ≤ t'.used
    child_more = omega (arith, loads.longer, used_nodes size t heads bytes, used_nodes size t' h1 b1)

    pub child_slot : n < t.used
    child_slot = omega (
      arith,
      loaded_used l s (bounds_of s b) n i (record { state = state_of size t' h1 b1; slot = c }) at_is,
      used_nodes size t
          heads bytes,
    )

    module _ (inner : Bounds Position) (hb : BoundsIn t.used b) (f : BoundsIn t.used b → n < t.used → BoundsIn t.used inner) where
      inner_in : BoundsIn t.used inner
      inner_in = f hb child_slot

      pub child_in : BoundsIn t'.used inner
      child_in = bounds_more t.used t'.used inner child_more inner_in

      pub child_entered : bounds_of (state_of size t heads bytes) inner ≡ child_bounds t.order.code (bounds_of (state_of size t heads bytes) b)
          (node_at (state_of size t heads bytes) n).entries i
          → (d : ℕ) (lo : List ℕ) (hi : List (List ℕ)) (y : Result Counted)
          → y ≡ counted (range_from d l lo hi (state_of size t' h1 b1) (bounds_of (state_of size t' h1 b1) inner) c)
          → y ≡ counted (range_child (range_from d l lo hi) l (state_of size t heads bytes) (bounds_of (state_of size t heads bytes) b) n i)
      unfolding range_child state_of
      child_entered ec d lo hi y ey =
          let k : bounds_of (state_of size t' h1 b1) inner ≡ child_bounds t.order.code (bounds_of s b) (node_at s n).entries i =
          bounds_loads l s (state_of size t' h1 b1) loads inner (rw (used_nodes size t heads bytes) inner_in) ∙ ec in
          ey ∙ ap (λ (bs : load.Bounds). counted (range_from d l lo hi (state_of size t' h1 b1) bs c)) k ∙ sym (rw at_is)

-- ---- the children of a node

pub both_most : (r g : Ranged) → ((both r g).count ≤ most) × ((both r g).length ≤ most)
unfolding both
both_most r g = (most_most (r.count + g.count), most_most (r.length + g.length))

-- a leaf
pub from_leaf : (l : Lent) (size : ℕ) (t : Tree) (heads bytes : List ℕ) (b : Bounds Position) (n d : ℕ) (lo : List ℕ) (hi : List (List ℕ))
    → d ≡ 0 → (r : Ranged) → r ≡ found_in t (between t.order.code lo hi (node_at (state_of size t heads bytes) n).entries)
    → ranged_of size heads bytes (Ok r) ≡ counted
    (range_from d l lo hi (state_of size t heads bytes) (bounds_of (state_of size t heads bytes) b) n)
unfolding ranged_of counted range_from state_of found_in sum_of
from_leaf l size t heads bytes b n d lo hi z r e =
    ap (λ (x : Ranged). ranged_of size heads bytes (Ok x)) e
    ∙ sym (ap (λ (j : ℕ). counted (range_from j l lo hi (state_of size t heads bytes) (bounds_of (state_of size t heads bytes) b) n)) z)

-- what is left from child i on
unfoldable pub left_from : Lent → ℕ → List ℕ → List ℕ → Bounds Position → ℕ → ℕ → List ℕ → List (List ℕ) → Ranged → ℕ → Result Counted
left_from l size heads bytes b n d lo hi r i =
    let s : State = state_of size r.tree heads bytes in
    ahead (record { count = r.count; length = r.length }) (counted (range_kids (range_from (d - 1) l lo hi) l s (bounds_of s b) n lo hi
    (length (node_at s n).entries - i) i))

module _ (l : Lent) (size : ℕ) (b : Bounds Position) (n d : ℕ) (lo : List ℕ) (hi : List (List ℕ)) where
  pub from_start : (t : Tree) (heads bytes : List ℕ) → (d ≡ 0 → ⊥)
      → left_from l size heads bytes b n d lo hi (record { tree = t; count = 0; length = 0 }) 0
      ≡ counted (range_from d l lo hi (state_of size t heads bytes) (bounds_of (state_of size t heads bytes) b) n)
  unfolding range_from left_from
  from_start t heads bytes z =
      let s : State = state_of size t heads bytes in
      let f : State → load.Bounds → ℕ → Result (Got Entry) = range_from (d - 1) l lo hi in
      let j : length (node_at s n).entries - 0 ≡ length (node_at s n).entries = omega arith in
      let k : d ≡ suc (d - 1) = omega arith in
      ahead_none (range_kids f l s (bounds_of s b) n lo hi (length (node_at s n).entries - 0) 0)
      ∙ ap (λ (x : ℕ). counted (range_kids f l s (bounds_of s b) n lo hi x 0)) j
      ∙ sym (ap (λ (x : ℕ). counted (range_from x l lo hi s (bounds_of s b) n)) k)

  module _ (r : Ranged) (heads bytes : List ℕ) (from : ℕ) (whole : Result Counted) (inv : left_from l size heads bytes b n d lo hi r from ≡ whole)
      (next : Option ℕ) (en : next ≡ next_entered r.tree.order.code lo hi (node_at (state_of size r.tree heads bytes) n).entries
      (length (node_at (state_of size r.tree heads bytes) n).entries - from) from) where
    abbrev st : State
    st = state_of size r.tree heads bytes

    abbrev below : State → load.Bounds → ℕ → Result (Got Entry)
    below = range_from (d - 1) l lo hi

    abbrev old : Sum
    old = record { count = r.count; length = r.length }

    abbrev kids : ℕ
    kids = length (node_at st n).entries

    next_is : next_entered st.order lo hi (node_at st n).entries (kids - from) from ≡ next
    unfolding state_of
    next_is = sym en

    pub from_end : next ≡ None → r.count ≤ most → r.length ≤ most → ranged_of size heads bytes (Ok r) ≡ whole
    unfolding ranged_of ahead counted left_from
    from_end q h k =
        ap (λ (m : Sum). ok (record { state = st; sum = m })) (sym (plus_nothing old h k))
        ∙ sym (ap (λ (x : Result (Got Entry)). ahead old (counted x))
        (kids_none below l st (bounds_of st b) n lo hi (kids - from) from (next_is ∙ q)))
        ∙ inv

    module _ (i : ℕ) (q : next ≡ Some i) where
      first : First st.order lo hi (node_at st n).entries (kids - from) from i
      first = first_is below l st (bounds_of st b) n lo hi (kids - from) from i (next_is ∙ q)

      pub turn_within : i < length (node_at (state_of size r.tree heads bytes) n).entries
      turn_within = omega (arith, first.least, first.most)

      pub turn_few : (slots : ℕ) → Ready size slots r.tree.used heads bytes → n < r.tree.used → i < 2 ^ 32
      turn_few slots y hn =
          let h : Head = live (head_at heads n) in
          let w : List ℕ = slot_bytes size bytes n in
          omega (
            arith,
            turn_within,
            count_is (node_at st n).entries h.count w (entries_here size r.tree heads bytes n hn h refl w refl),
            records_few size r.tree heads bytes n hn h refl slots y,
          )

      inv_i : ahead old (counted (range_kids below l st (bounds_of st b) n lo hi (kids - i) i)) ≡ whole
      unfolding left_from
      inv_i =
          let z : from + (kids - from) - i ≡ kids - i = omega (arith, first.least, first.most) in
          ap (λ (m : ℕ). ahead old (counted (range_kids below l st (bounds_of st b) n lo hi m i))) (sym z)
          ∙ ap (λ (x : Result (Got Entry)). ahead old (counted x))
          (kids_skipped below l st (bounds_of st b) n lo hi (kids - from) from i (next_is ∙ q))
          ∙ inv

      module _ (h1 b1 : List ℕ) (x : std.Result Ranged Refusal)
          (e : ranged_of size h1 b1 x ≡ counted (range_child (range_from (d - 1) l lo hi) l (state_of size r.tree heads bytes)
          (bounds_of (state_of size r.tree heads bytes) b) n i)) where
        rest : Got Entry → Result (Got Entry)
        rest g = range_kids below l g.state (bounds_of st b) n lo hi (kids - (i + 1)) (suc i)
            >>= λ h. ok (record { state = h.state; answer = g.answer ++ h.answer })

        whole_is : ahead old (counted (range_child below l st (bounds_of st b) n i >>= rest)) ≡ whole
        unfolding rest
        whole_is =
            let z : kids - i ≡ suc (kids - (i + 1)) = omega (arith, turn_within) in
            sym (ap (λ (y : Result (Got Entry)). ahead old (counted y))
            (ap (λ (m : ℕ). range_kids below l st (bounds_of st b) n lo hi m i) z
            ∙ kids_child below l st (bounds_of st b) n lo hi (kids - (i + 1)) i first.enters)) ∙ inv_i

        pub turn_refused : (y : Refusal) → x ≡ Err y → ranged_of size h1 b1 (Err y) ≡ whole
        unfolding ranged_of
        turn_refused y p = ahead_refused old (number_of y) (range_child below l st (bounds_of st b) n i) rest
            (sym (ap (ranged_of size h1 b1) p) ∙ e) ∙ whole_is

        module _ (g : Ranged) (p : x ≡ Ok g) (used : n < r.tree.used) where
          abbrev su : State
          su = state_of size g.tree h1 b1

          child_found : Found (range_child below l st (bounds_of st b) n i) (state_of size g.tree h1 b1)
              (record { count = g.count; length = g.length })
          unfolding ranged_of
          child_found = counted_found (range_child below l st (bounds_of st b) n i) su (record { count = g.count; length = g.length })
              (sym (ap (ranged_of size h1 b1) p) ∙ e)

          turn_loads : Loads l st (state_of size g.tree h1 b1)
          turn_loads = subst (Loads l st) child_found.state
              ((child_load (d - 1) l lo hi st (bounds_of st b) n i).at child_found.got child_found.found)

          pub turn_more : r.tree.used ≤ g.tree.used
          turn_more = omega (arith, turn_loads.longer, used_nodes size r.tree heads bytes, used_nodes size g.tree h1 b1)

          kids_same : length (node_at (state_of size g.tree h1 b1) n).entries ≡ kids
          kids_same = keys_same (node_at su n).entries (node_at st n).entries
              (turn_loads.keys n (omega (arith, used, used_nodes size r.tree heads bytes)))

          pub turn_falls : length (node_at (state_of size g.tree h1 b1) n).entries - (i + 1)
              < length (node_at (state_of size r.tree heads bytes) n).entries - from
          turn_falls = omega (arith, kids_same, turn_within, first.least)

          module _ (hb : BoundsIn r.tree.used b) where
            pub turn_in : BoundsIn g.tree.used b
            turn_in = bounds_more r.tree.used g.tree.used b turn_more hb

            pub turn_next : left_from l size h1 b1 b n d lo hi (both r g) (i + 1) ≡ whole
            unfolding rest plus left_from both
            turn_next =
                let got : Got Entry = child_found.got in
                let new : Sum = record { count = at_most (r.count + g.count); length = at_most (r.length + g.length) } in
                let kept : bounds_of su b ≡ bounds_of st b = bounds_loads l st su turn_loads b (rw (used_nodes size r.tree heads bytes) hb) in
                let on : Result (Got Entry) = range_kids below l su (bounds_of st b) n lo hi (kids - (i + 1)) (suc i) in
                let now : new ≡ plus old (sum_of got.answer) = ap (plus old) (sym child_found.sum) in
                ap (λ (m : ℕ). ahead new (counted (range_kids below l su (bounds_of su b) n lo hi (m - (i + 1)) (i + 1)))) kids_same
                ∙ ap₂ (λ (y : load.Bounds) (z : ℕ). ahead new (counted (range_kids below l su y n lo hi (kids - (i + 1)) z))) kept (add-one i)
                ∙ ap (λ (y : Sum). ahead y (counted on)) now
                ∙ ap (λ (y : State). ahead (plus old (sum_of got.answer))
                (counted (range_kids below l y (bounds_of st b) n lo hi (kids - (i + 1)) (suc i))))
                (sym child_found.state)
                ∙ sym (ahead_more old got.answer (range_kids below l got.state (bounds_of st b) n lo hi (kids - (i + 1)) (suc i)))
                ∙ sym (ap (λ (y : Result (Got Entry)). ahead old (counted (y >>= rest))) child_found.found) ∙ whole_is

pub ruleset range_from_laws = (child_slot, from_leaf, from_start, from_end, turn_few)
