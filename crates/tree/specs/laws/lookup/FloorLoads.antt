-- What the loads of floor leave as it was: the tree's numbers, every key and every bound. Assumes nothing.
use Rattle.std.specs.Prelude.{◌≡◌, refl, Bool, cond, ◌&&◌, not, ℕ, zero, suc, ◌-◌, ◌≤◌, ◌<◌, length, ltb, Option, Some, None}
use Rattle.std.proofs.Common.{sym, ◌∙◌, arith}
use Rattle.std.proofs.Math.Path.{ap, ap₂}
use mathlib.Core.List.{List, [], ◌∷◌}
use Rattle.node.specs.Result.{Result, ok, ◌>>=◌}
use Rattle.node.specs.Order.{less}
use Rattle.node.specs.Entry.{Entry}
use Rattle.node.specs.Find.{key_at, way_index}
use Rattle.node.specs.laws.base.Results.{Holds, holds_ok, holds_bind, holds_imp}
use Rattle.tree.specs.Lent.{Lent}
use Rattle.tree.specs.State.{State, node_at}
use Rattle.tree.specs.Load as load
use Rattle.tree.specs.Load.{child_bounds, load_child}
use Rattle.tree.specs.Lookup.{Got, last_from, floor_from}
use Rattle.tree.specs.Workspace.{state_of}
use Rattle.tree.specs.internal.Tree.{bound_of, bounds_of, BoundIn, BoundsIn}
use Rattle.tree.specs.internal.Floor.{none_in, left_from}
use Rattle.tree.specs.laws.state.State.{keys_of}
use Rattle.tree.specs.laws.slots.Tree.{used_nodes}
use Rattle.tree.specs.laws.load.Way.{same_keys, loaded_used}
use Rattle.tree.specs.laws.trust.Loads.{Loads, loads_refl, loads_then, load_loads, holds_cond, by_list}
use Rattle.tree.specs.laws.lookup.RangeAgain.{keys_same}
use Rattle.tree.specs.declared.editor.Tree.{Tree}
use Rattle.tree.specs.declared.editor.Position.{Position}
use Rattle.tree.specs.declared.editor.Bounds.{Bounds}

-- ---- whatever the slots hold, floor only loads

pub last_loads : (d : ℕ) (l : Lent) (s : State) (bs : load.Bounds) (n : ℕ) → Holds (λ g. Loads l s g.state) (last_from d l s bs n)
unfolding last_from
last_loads zero l s bs n = holds_ok (loads_refl l s)
last_loads (suc d) l s bs n =
    let i : ℕ = length (node_at s n).entries - 1 in
    let cs : load.Bounds = child_bounds s.order bs (node_at s n).entries i in
    holds_bind (load_child l s bs n i) _ λ a e.
    holds_imp (last_from d l a.state cs a.slot) (λ g b. loads_then l s a.state g.state (load_loads l s bs n i a e) b)
    (last_loads d l a.state cs a.slot)

pub floor_loads : (d : ℕ) (l : Lent) (s : State) (bs : load.Bounds) (n : ℕ) (k : List ℕ) → Holds (λ g. Loads l s g.state) (floor_from d l s bs n k)
unfolding floor_from
floor_loads zero l s bs n k = holds_ok (loads_refl l s)
floor_loads (suc d) l s bs n k =
    let es : List Entry = (node_at s n).entries in
    let i : ℕ = way_index s.order k es in
    let cs : load.Bounds = child_bounds s.order bs es i in
    let ls : load.Bounds = child_bounds s.order bs es (i - 1) in
    holds_bind (load_child l s bs n i) _ λ a e.
    holds_bind (floor_from d l a.state cs a.slot k) _ λ g f.
    let q : Loads l s g.state = loads_then l s a.state g.state (load_loads l s bs n i a e)
    ((floor_loads d l a.state cs a.slot k).at g f) in
    by_list g.answer
    (λ z. rw z (holds_cond (ltb 0 i && not (less s.order k (key_at es i))) _ _
    (λ t. holds_bind (load_child l g.state bs n (i - 1)) _ λ b y.
    let r = loads_then l s g.state b.state q (load_loads l g.state bs n (i - 1) b y) in
    holds_imp (last_from d l b.state ls b.slot) (λ h x. loads_then l s b.state h.state r x) (last_loads d l b.state ls b.slot))
    (λ t. holds_ok q)))
    (λ x xs z. rw z (holds_ok q))

-- ---- bounds are of keys

bounds_keys : (o : ℕ) (bs : load.Bounds) (xs ys : List Entry) (i : ℕ) → keys_of xs ≡ keys_of ys → child_bounds o bs xs i ≡ child_bounds o bs ys i
unfolding child_bounds
bounds_keys o bs xs ys i e =
    let n : length xs ≡ length ys = keys_same xs ys e in
    rw (same_keys xs ys i e, same_keys xs ys (suc i) e, n)

bound_more : (m k : ℕ) (b : Option Position) → m ≤ k → BoundIn m b → BoundIn k b
bound_more m k None h i = tt
bound_more m k (Some x) h i = omega arith

pub bounds_more : (m k : ℕ) (b : Bounds Position) → m ≤ k → BoundsIn m b → BoundsIn k b
bounds_more m k b h i = record { lower = bound_more m k b.lower h i.lower; upper = bound_more m k b.upper h i.upper }

-- `left_from`, its test and its child's bounds given
abbrev pub left_with : ℕ → Lent → State → load.Bounds → ℕ → ℕ → Bool → load.Bounds → Result (Got Entry)
left_with d l s bs n i above cs =
    cond (ltb 0 i && not above) (load_child l s bs n (i - 1) >>= λ c. last_from d l c.state cs c.slot) (ok (none_in s))

module _ (l : Lent) (s t : State) (k : Loads l s t) where
  bound_loads : (b : Option Position) → BoundIn (length s.nodes) b → bound_of t b ≡ bound_of s b
  unfolding bound_of
  bound_loads None h = refl
  bound_loads (Some b) h =
      ap (λ (x : List ℕ). x ∷ []) (same_keys (node_at t b.slot).entries (node_at s b.slot).entries b.index (k.keys b.slot h))

  pub bounds_loads : (b : Bounds Position) → BoundsIn (length s.nodes) b → bounds_of t b ≡ bounds_of s b
  unfolding bounds_of
  bounds_loads b h = rw (bound_loads b.lower h.lower, bound_loads b.upper h.upper)

  -- leftward after loads: as with the keys and the bounds before them
  pub left_loads : (d : ℕ) (b : Bounds Position) (n i : ℕ) (key : List ℕ) → BoundsIn (length s.nodes) b → n < length s.nodes
      → left_from d l t (bounds_of t b) n i key ≡ left_with d l t (bounds_of s b) n i (less s.order key (key_at (node_at s n).entries i))
      (child_bounds s.order (bounds_of s b) (node_at s n).entries (i - 1))
  unfolding left_from
  left_loads d b n i key h used =
      let e : bounds_of t b ≡ bounds_of s b = bounds_loads b h in
      let x : less t.order key (key_at (node_at t n).entries i) ≡ less s.order key (key_at (node_at s n).entries i) =
      ap₂ (λ (o : ℕ) (z : List ℕ). less o key z) k.order (same_keys (node_at t n).entries (node_at s n).entries i (k.keys n used)) in
      let y : child_bounds t.order (bounds_of t b) (node_at t n).entries (i - 1)
      ≡ child_bounds s.order (bounds_of s b) (node_at s n).entries (i - 1) =
      ap₂ (λ (o : ℕ) (z : load.Bounds). child_bounds o z (node_at t n).entries (i - 1)) k.order e
      ∙ bounds_keys s.order (bounds_of s b) (node_at t n).entries (node_at s n).entries (i - 1) (k.keys n used) in
      ap (λ (z : load.Bounds). left_with d l t z n i (less t.order key (key_at (node_at t n).entries i))
      (child_bounds t.order (bounds_of t b) (node_at t n).entries (i - 1))) e
      ∙ ap₂ (left_with d l t (bounds_of s b) n i) x y

-- ---- a child loaded, as the code has it

module _ (l : Lent) (size : ℕ) (t : Tree) (heads bytes : List ℕ) (b : Bounds Position) (n i : ℕ) (t' : Tree) (heads' bytes' : List ℕ) (c : ℕ)
    (e : ok (record { state = state_of size t' heads' bytes'; slot = c }) ≡ load_child l (state_of size t heads bytes)
    (bounds_of (state_of size t heads bytes) b) n i) where
  abbrev s : State
  s = state_of size t heads bytes

  abbrev s' : State
  s' = state_of size t' heads' bytes'

  abbrev a : load.At
  a = record { state = state_of size t' heads' bytes'; slot = c }

  loads : Loads l s s'
  loads = load_loads l s (bounds_of s b) n i a (sym e)

  pub child_used : n < t.used
  child_used = omega (arith, loaded_used l s (bounds_of s b) n i a (sym e), used_nodes size t heads bytes)

  pub child_more : t.used ≤ t'.used
  child_more = omega (arith, loads.longer, used_nodes size t heads bytes, used_nodes size t' heads' bytes')

  module _ (inner : Bounds Position) (hb : BoundsIn t.used b) (f : BoundsIn t.used b → n < t.used → BoundsIn t.used inner) where
    pub child_in : BoundsIn t'.used inner
    child_in = bounds_more t.used t'.used inner child_more (f hb child_used)

    pub child_kept : bounds_of s' inner ≡ bounds_of s inner
    child_kept = bounds_loads l s s' loads inner (rw (used_nodes size t heads bytes) (f hb child_used))
