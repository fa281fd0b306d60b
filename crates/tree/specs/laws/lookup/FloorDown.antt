-- Laws of floor's way down: the last entry below a slot, the last not above a key, leftward. Assumes nothing.
use Rattle.std.specs.Prelude.{◌≡◌, List, Bool, true, false, ltb}
use Rattle.std.proofs.Math.Path.{sym, ap}
use Rattle.std.proofs.Common.{◌∙◌, lt-ltb}
use Prim.Native.Nat.{ℕ, suc, ◌-◌, ◌≤◌, ◌<◌}
use native.Mathlib.Omega.{arith}
use Rattle.std.proofs.Math.ListN.{length}
use Rattle.node.specs.Result.{Result, ok, ◌>>=◌}
use Rattle.node.specs.Order.{less}
use Rattle.node.specs.Entry.{Entry}
use Rattle.node.specs.Find.{key_at, way_index}
use Rattle.tree.specs.Lent.{Lent}
use Rattle.tree.specs.State.{State, node_at}
use Rattle.tree.specs.Load as load
use Rattle.tree.specs.Load.{child_bounds, load_child}
use Rattle.tree.specs.Lookup.{Got, last_from, floor_from}
use Rattle.tree.specs.Workspace.{state_of}
use Rattle.tree.specs.internal.Tree.{bounds_of, BoundsIn, loaded_of}
use Rattle.tree.specs.internal.Floor.{none_in, entry_in, got_last, last_means, last_at, floor_at, left_from}
use Rattle.tree.specs.laws.slots.Tree.{used_nodes}
use Rattle.tree.specs.laws.trust.Loads.{Loads, loads_then, load_loads}
use Rattle.tree.specs.laws.lookup.FloorLoads.{floor_loads, bounds_more, left_with, left_loads, child_used, child_more, child_in, child_kept}
use Rattle.tree.specs.declared.editor.Tree.{Tree}
use Rattle.tree.specs.declared.editor.Position.{Position}
use Rattle.tree.specs.declared.editor.Bounds.{Bounds}
use Rattle.std.specs.Prelude as std
use Rattle.std.specs.Prelude.{Ok, Err, Some, None, Option}
use Rattle.node.specs.declared.refusal.Refusal.{Refusal}

-- ---- a child loaded, and its bounds

module _ (l : Lent) (size : ℕ) (t : Tree) (heads bytes : List ℕ) (b : Bounds Position) (n i : ℕ) (x : std.Result (Tree × ℕ) Refusal)
    (heads' bytes' : List ℕ)
    (ex : loaded_of size heads' bytes' x ≡ load_child l (state_of size t heads bytes) (bounds_of (state_of size t heads bytes) b) n i)
    (t' : Tree) (c : ℕ) (q : x ≡ Ok (t', c)) where
  pub into : ok (record { state = state_of size t' heads' bytes'; slot = c }) ≡ load_child l (state_of size t heads bytes)
      (bounds_of (state_of size t heads bytes) b) n i
  unfolding loaded_of
  into = ap (loaded_of size heads' bytes') (sym q) ∙ ex

  pub into_more : t.used ≤ t'.used
  into_more = child_more l size t heads bytes b n i t' heads' bytes' c into

  module _ (inner : Bounds Position) (hb : BoundsIn t.used b) (f : BoundsIn t.used b → n < t.used → BoundsIn t.used inner) where
    pub into_in : BoundsIn t'.used inner
    into_in = child_in l size t heads bytes b n i t' heads' bytes' c into inner hb f

    pub into_bounds : bounds_of (state_of size t heads bytes) inner ≡ child_bounds t.order.code (bounds_of (state_of size t heads bytes) b)
        (node_at (state_of size t heads bytes) n).entries i
        → bounds_of (state_of size t' heads' bytes') inner ≡ child_bounds t.order.code (bounds_of (state_of size t heads bytes) b)
        (node_at (state_of size t heads bytes) n).entries i
    into_bounds eb = child_kept l size t heads bytes b n i t' heads' bytes' c into inner hb f ∙ eb

-- ---- the last entry d levels down

module _ (l : Lent) (size : ℕ) (t : Tree) (heads bytes : List ℕ) (b : Bounds Position) (n d : ℕ) where
  pub last_leaf : d ≡ 0 → (r : Option Position) → got_last (state_of size t heads bytes) r ≡ last_at (state_of size t heads bytes) n
      → last_means size heads bytes (Ok (t, r)) ≡ last_from d l (state_of size t heads bytes) (bounds_of (state_of size t heads bytes) b) n
  unfolding last_from last_at last_means
  last_leaf z r e = rw z (ap ok e)

  module _ (hd : d ≡ 0 → ⊥) (count i : ℕ) (ec : count ≡ length (node_at (state_of size t heads bytes) n).entries) (ei : i ≡ count - 1)
      (x : std.Result (Tree × ℕ) Refusal)
      (heads' bytes' : List ℕ)
      (ex : loaded_of size heads' bytes' x ≡ load_child l (state_of size t heads bytes) (bounds_of (state_of size t heads bytes) b) n i) where
    abbrev s : State
    s = state_of size t heads bytes

    last_step : last_from d l (state_of size t heads bytes) (bounds_of (state_of size t heads bytes) b) n
        ≡ (loaded_of size heads' bytes' x >>= λ c. last_from (d - 1) l c.state
        (child_bounds t.order.code (bounds_of (state_of size t heads bytes) b) (node_at (state_of size t heads bytes) n).entries i) c.slot)
    unfolding last_from state_of
    last_step =
        let z : d ≡ suc (d - 1) = omega arith in
        let j : length (node_at s n).entries - 1 ≡ i = omega arith in
        ap (λ (m : ℕ). last_from m l s (bounds_of s b) n) z ∙ rw (j, ex)

    pub last_refused : (y : Refusal) → x ≡ Err y → last_means size heads' bytes' (Err y) ≡ last_from d l (state_of size t heads bytes)
        (bounds_of (state_of size t heads bytes) b) n
    unfolding last_means loaded_of
    last_refused y q = sym (last_step ∙ rw q)

    pub last_down : (t' : Tree) (c : ℕ) → x ≡ Ok (t', c) → (inner : Bounds Position) → BoundsIn t.used b
        → (BoundsIn t.used b → n < t.used → BoundsIn t.used inner)
        → bounds_of (state_of size t heads bytes) inner ≡ child_bounds t.order.code (bounds_of (state_of size t heads bytes) b)
        (node_at (state_of size t heads bytes) n).entries i
        → (y : Result (Got Entry)) → y ≡ last_from (d - 1) l (state_of size t' heads' bytes') (bounds_of (state_of size t' heads' bytes') inner) c
        → y ≡ last_from d l (state_of size t heads bytes) (bounds_of (state_of size t heads bytes) b) n
    unfolding loaded_of
    last_down t' c q inner hb f eb y e =
        let k = into_bounds l size t heads bytes b n i x heads' bytes' ex t' c q inner hb f eb in
        e ∙ rw k (sym (last_step ∙ rw q))

-- ---- leftward

module _ (l : Lent) (size : ℕ) (t : Tree) (heads bytes : List ℕ) (b : Bounds Position) (n i d : ℕ) (key : List ℕ) where
  pub left_first : i ≡ 0 → last_means size heads bytes (Ok (t, None)) ≡ left_from d l (state_of size t heads bytes)
      (bounds_of (state_of size t heads bytes) b) n i key
  unfolding last_means got_last left_from
  left_first z = sym (rw z)

  module _ (z : i ≡ 0 → ⊥) (k : List ℕ) (ek : k ≡ key_at (node_at (state_of size t heads bytes) n).entries i) (above : Bool)
      (ea : above ≡ less t.order.code key k) where
    more : ltb 0 i ≡ true
    more = lt-ltb 0 i (omega arith)

    below : less t.order.code key (key_at (node_at (state_of size t heads bytes) n).entries i) ≡ above
    below = ap (less t.order.code key) (sym ek) ∙ sym ea

    pub left_above : above ≡ true → last_means size heads bytes (Ok (t, None)) ≡ left_from d l (state_of size t heads bytes)
        (bounds_of (state_of size t heads bytes) b) n i key
    unfolding last_means got_last left_from state_of
    left_above u = sym (rw (more, below, u))

    module _ (u : above ≡ false) (x : std.Result (Tree × ℕ) Refusal) (heads' bytes' : List ℕ)
        (ex : loaded_of size heads' bytes' x ≡ load_child l (state_of size t heads bytes) (bounds_of (state_of size t heads bytes) b) n (i - 1)) where
      left_step : left_from d l (state_of size t heads bytes) (bounds_of (state_of size t heads bytes) b) n i key
          ≡ (loaded_of size heads' bytes' x >>= λ c. last_from d l c.state
          (child_bounds t.order.code (bounds_of (state_of size t heads bytes) b) (node_at (state_of size t heads bytes) n).entries (i - 1)) c.slot)
      unfolding left_from state_of
      left_step = rw (more, below, u, ex)

      pub left_refused : (y : Refusal) → x ≡ Err y → last_means size heads' bytes' (Err y) ≡ left_from d l (state_of size t heads bytes)
          (bounds_of (state_of size t heads bytes) b) n i key
      unfolding last_means loaded_of
      left_refused y q = sym (left_step ∙ rw q)

      pub left_down : (t' : Tree) (c : ℕ) → x ≡ Ok (t', c) → (inner : Bounds Position) → BoundsIn t.used b
          → (BoundsIn t.used b → n < t.used → BoundsIn t.used inner)
          → bounds_of (state_of size t heads bytes) inner ≡ child_bounds t.order.code (bounds_of (state_of size t heads bytes) b)
          (node_at (state_of size t heads bytes) n).entries (i - 1)
          → (y : Result (Got Entry)) → y ≡ last_from d l (state_of size t' heads' bytes') (bounds_of (state_of size t' heads' bytes') inner) c
          → y ≡ left_from d l (state_of size t heads bytes) (bounds_of (state_of size t heads bytes) b) n i key
      unfolding loaded_of
      left_down t' c q inner hb f eb y e =
          let m = into_bounds l size t heads bytes b n (i - 1) x heads' bytes' ex t' c q inner hb f eb in
          e ∙ rw m (sym (left_step ∙ rw q))

-- ---- the last entry not above a key

module _ (l : Lent) (size : ℕ) (t : Tree) (heads bytes : List ℕ) (b : Bounds Position) (n d : ℕ) (key : List ℕ) where
  pub floor_leaf : d ≡ 0 → (r : Option Position) → got_last (state_of size t heads bytes) r ≡ floor_at (state_of size t heads bytes) n key
      → last_means size heads bytes (Ok (t, r)) ≡ floor_from d l (state_of size t heads bytes) (bounds_of (state_of size t heads bytes) b) n key
  unfolding floor_from floor_at last_means
  floor_leaf z r e = rw z (ap ok e)

module _ (l : Lent) (size : ℕ) (t : Tree) (heads bytes : List ℕ) (b : Bounds Position) (n d : ℕ) (key : List ℕ) where
  module _ (hd : d ≡ 0 → ⊥) (i : ℕ) (ei : i ≡ way_index t.order.code key (node_at (state_of size t heads bytes) n).entries)
      (x : std.Result (Tree × ℕ) Refusal)
      (heads' bytes' : List ℕ)
      (ex : loaded_of size heads' bytes' x ≡ load_child l (state_of size t heads bytes) (bounds_of (state_of size t heads bytes) b) n i) where
    abbrev from : State
    from = state_of size t heads bytes

    abbrev bs : load.Bounds
    bs = bounds_of (state_of size t heads bytes) b

    lower : d ≡ suc (d - 1)
    lower = omega arith

    pub floor_refused : (y : Refusal) → x ≡ Err y → last_means size heads' bytes' (Err y) ≡ floor_from d l (state_of size t heads bytes)
        (bounds_of (state_of size t heads bytes) b) n key
    unfolding floor_from last_means loaded_of state_of
    floor_refused y q = sym (ap (λ (m : ℕ). floor_from m l from bs n key) lower ∙ rw (← ei, ← ex, q))

    module _ (t' : Tree) (c : ℕ) (q : x ≡ Ok (t', c)) (inner : Bounds Position) (hb : BoundsIn t.used b)
        (f : BoundsIn t.used b → n < t.used → BoundsIn t.used inner)
        (eb : bounds_of (state_of size t heads bytes) inner ≡ child_bounds t.order.code (bounds_of (state_of size t heads bytes) b)
        (node_at (state_of size t heads bytes) n).entries i)
        (r : std.Result (Tree × Option Position) Refusal) (heads'' bytes'' : List ℕ)
        (er : last_means size heads'' bytes'' r ≡ floor_from (d - 1) l (state_of size t' heads' bytes')
        (bounds_of (state_of size t' heads' bytes') inner) c
        key) where
      child_is : load_child l (state_of size t heads bytes) (bounds_of (state_of size t heads bytes) b) n i ≡ ok
          (record { state = state_of size t' heads' bytes'; slot = c })
      child_is = sym (into l size t heads bytes b n i x heads' bytes' ex t' c q)

      below_is : floor_from (d - 1) l (state_of size t' heads' bytes') (child_bounds t.order.code (bounds_of (state_of size t heads bytes) b)
          (node_at (state_of size t heads bytes) n).entries i) c key ≡ last_means size heads'' bytes'' r
      below_is =
          ap (λ (z : load.Bounds). floor_from (d - 1) l (state_of size t' heads' bytes') z c key)
          (sym (into_bounds l size t heads bytes b n i x heads' bytes' ex t' c q inner hb f eb)) ∙ sym er

      pub floor_below : (y : Refusal) → r ≡ Err y → last_means size heads'' bytes'' (Err y) ≡ floor_from d l (state_of size t heads bytes)
          (bounds_of (state_of size t heads bytes) b) n key
      unfolding floor_from last_means state_of
      floor_below y u = sym (ap (λ (m : ℕ). floor_from m l from bs n key) lower ∙ rw (← ei, child_is, below_is, u))

      pub floor_found : (v : Tree) (f : Option Position) → r ≡ Ok (v, f) → (e : Position) → f ≡ Some e
          → last_means size heads'' bytes'' (Ok (v, f)) ≡ floor_from d l (state_of size t heads bytes)
          (bounds_of (state_of size t heads bytes) b) n key
      unfolding floor_from last_means got_last entry_in state_of
      floor_found v f u e q = rw q (sym (ap (λ (m : ℕ). floor_from m l from bs n key) lower ∙ rw (← ei, child_is, below_is, u, q)))

      module _ (v : Tree) (g : Option Position) (u : r ≡ Ok (v, g)) (z : g ≡ None) where
        abbrev to : State
        to = state_of size v heads'' bytes''

        none_is : last_means size heads'' bytes'' r ≡ ok (none_in (state_of size v heads'' bytes''))
        unfolding last_means got_last
        none_is = rw (u, z)

        used : n < t.used
        used = child_used l size t heads bytes b n i t' heads' bytes' c (sym child_is)

        loads : Loads l from to
        unfolding none_in
        loads =
            let down : State = state_of size t' heads' bytes' in
            loads_then l from down to (load_loads l from bs n i (record { state = state_of size t' heads' bytes'; slot = c }) child_is)
            ((floor_loads (d - 1) l down (bounds_of down inner) c key).at (none_in to) (sym er ∙ none_is))

        pub floor_more : t.used ≤ v.used
        floor_more = omega (arith, loads.longer, used_nodes size t heads bytes, used_nodes size v heads'' bytes'')

        pub floor_in_lem : BoundsIn v.used b
        floor_in_lem = bounds_more t.used v.used b floor_more hb

        left_is : floor_from d l (state_of size t heads bytes) (bounds_of (state_of size t heads bytes) b) n key
            ≡ left_with (d - 1) l (state_of size v heads'' bytes'') (bounds_of (state_of size t heads bytes) b) n i
            (less t.order.code key (key_at (node_at (state_of size t heads bytes) n).entries i))
            (child_bounds t.order.code (bounds_of (state_of size t heads bytes) b) (node_at (state_of size t heads bytes) n).entries (i - 1))
        unfolding floor_from none_in state_of
        left_is = ap (λ (m : ℕ). floor_from m l from bs n key) lower ∙ rw (← ei, child_is, below_is, none_is, ← ei)

        pub floor_left : (y : Result (Got Entry))
            → y ≡ left_from (d - 1) l (state_of size v heads'' bytes'') (bounds_of (state_of size v heads'' bytes'') b) n i key
            → y ≡ floor_from d l (state_of size t heads bytes) (bounds_of (state_of size t heads bytes) b) n key
        unfolding state_of
        floor_left y e =
            let long : length from.nodes ≡ t.used = used_nodes size t heads bytes in
            e ∙ left_loads l from to loads (d - 1) b n i key (rw long hb) (omega (arith, used)) ∙ sym left_is

pub ruleset last_from_laws = (last_refused, last_leaf)

pub ruleset floor_left_laws = (left_refused, left_first, left_above)

pub ruleset floor_from_laws = (floor_refused, floor_leaf)
