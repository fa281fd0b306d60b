-- Laws of the way: one for each turn and each way out. Assumes nothing.
use Rattle.std.specs.Prelude.{◌≡◌, List, [], ◌∷◌, ◌++◌, get_or}
use Rattle.std.proofs.Math.Path.{refl, sym, ap}
use Rattle.std.proofs.Math.ListN.{get_or-append}
use Rattle.std.proofs.Math.Seq.{get_or-append_seam}
use Rattle.std.proofs.Common.{subst, ◌∙◌, append_assoc, length-append}
use Prim.Native.Nat.{ℕ, zero, suc, ◌+◌, ◌-◌, ◌≤◌, ◌<◌}
use native.Mathlib.Omega.{arith}
use Rattle.std.proofs.Math.ListN.{length}
use Rattle.node.specs.Result.{Result, ok, refused, ◌>>=◌}
use Rattle.node.specs.Entry.{Entry, disk, mem}
use Rattle.node.specs.Find.{key_at, way_index}
use Rattle.node.specs.internal.SlotSteps.{last_in}
use Rattle.node.specs.Records.{entries_of}
use Rattle.node.specs.declared.slot.Last.{Last}
use Rattle.tree.specs.Lent.{Lent}
use Rattle.tree.specs.Workspace.{state_of}
use Rattle.tree.specs.State.{State, node_at}
use Rattle.tree.specs.laws.state.State.{keys_of, at_used}
use Rattle.tree.specs.Load as load
use Rattle.tree.specs.laws.state.Load.{by_load, load_keeps}
use Rattle.tree.specs.Lookup as lookup
use Rattle.tree.specs.internal.Bank.{Ready, ReadyAfter}
use Rattle.tree.specs.internal.Tree.{loaded_of, bound_of, bounds_of, BoundIn, BoundsIn}
use Rattle.tree.specs.laws.slots.Tree.{used_nodes}
use Rattle.tree.specs.internal.Steps.{positions}
use Rattle.tree.specs.internal.Way.{steps_of, steps_in, onto, walked_of, way_of}
use Rattle.tree.specs.declared.editor.Tree.{Tree}
use Rattle.tree.specs.declared.editor.Position as code
use Rattle.tree.specs.declared.steps.Steps.{Steps}
use Rattle.tree.specs.declared.editor.Position.{Position}
use Rattle.tree.specs.declared.editor.Bounds.{Bounds}
use Rattle.std.specs.Prelude as std
use Rattle.std.specs.Prelude.{Ok, Err, Some, None, Option}
use Rattle.std.proofs.lemmas.Option.{IfSome_then}
use Rattle.node.specs.Refusals.{number_of}
use Rattle.node.specs.declared.refusal.Refusal.{Refusal}

-- ---- the child taken

pub index_of : (code n : ℕ) (key l : List ℕ) (es : List Entry) (r : Last) → es ≡ entries_of n l → r ≡ last_in code key n l
    → r.count - 1 ≡ way_index code key es
unfolding way_index last_in
index_of code n key l es r e er = rw (e, er)

-- ---- bounds are the same after a load

key_of_keys : (es : List Entry) (i : ℕ) → key_at es i ≡ get_or (keys_of es) i []
unfolding key_at
key_of_keys [] zero = refl
key_of_keys [] (suc i) = refl
key_of_keys (e ∷ es) zero = refl
key_of_keys (e ∷ es) (suc i) = key_of_keys es i

pub same_keys : (xs ys : List Entry) (i : ℕ) → keys_of xs ≡ keys_of ys → key_at xs i ≡ key_at ys i
same_keys xs ys i e = key_of_keys xs i ∙ ap (λ (z : List (List ℕ)). get_or z i []) e ∙ sym (key_of_keys ys i)

bound_kept : (l : Lent) (s : State) (bs : load.Bounds) (n i : ℕ) (a : load.At) → load.load_child l s bs n i ≡ ok a → (b : Option Position)
    → BoundIn (length s.nodes) b → bound_of a.state b ≡ bound_of s b
unfolding bound_of
bound_kept l s bs n i a e None h = refl
bound_kept l s bs n i a e (Some b) h =
    ap (λ (k : List ℕ). k ∷ []) (same_keys (node_at a.state b.slot).entries (node_at s b.slot).entries b.index
    ((load_keeps l s bs n i a e).keys b.slot h))

bounds_kept : (l : Lent) (s : State) (bs : load.Bounds) (n i : ℕ) (a : load.At) → load.load_child l s bs n i ≡ ok a → (b : Bounds Position)
    → BoundsIn (length s.nodes) b → bounds_of a.state b ≡ bounds_of s b
unfolding bounds_of
bounds_kept l s bs n i a e b h = rw (bound_kept l s bs n i a e b.lower h.lower, bound_kept l s bs n i a e b.upper h.upper)

-- a node whose child was loaded is in use
pub loaded_used : (l : Lent) (s : State) (bs : load.Bounds) (n i : ℕ) (a : load.At) → load.load_child l s bs n i ≡ ok a → n < length s.nodes
loaded_used l s bs n i a e =
    by_load l s bs n i a e
    (λ c q p. at_used s n i (mem c) (λ z. let y : ◌≡◌ {A = ℕ} 0 1 = cc in omega arith) q)
    (λ r d b q h w x p. at_used s n i (disk r) (λ z. let y : ◌≡◌ {A = ℕ} 0 1 = cc in omega arith) q)

-- ---- steps

-- the first steps of a way that goes on
steps_front : (way more : List code.Position) (k : ℕ) → k ≤ length way → steps_of (way ++ more) k ≡ steps_of way k
unfolding steps_of
steps_front way more zero h = refl
steps_front way more (suc k) h =
    rw (steps_front way more k (omega arith), get_or-append way more (record { slot = 0; index = 0 }) k (omega arith))

pub steps_next : (way way' : List code.Position) (n i : ℕ) → way' ≡ way ++ record { slot = n; index = i } ∷ []
    → steps_in way' ≡ steps_in way ++ record { slot = n; child = i } ∷ []
unfolding steps_of
steps_next way way' n i e =
    let x : code.Position = record { slot = n; index = i } in
    let z : length (way ++ x ∷ []) ≡ suc (length way) = omega (arith, length-append way (x ∷ [])) in
    rw e (ap (steps_of (way ++ x ∷ [])) z
    ∙ rw (steps_front way (x ∷ []) (length way) (omega arith), get_or-append_seam way x [] (record { slot = 0; index = 0 })))

-- steps put before a step and a way
pub onto_above : (xs : List lookup.Step) (n i : ℕ) (r : Result lookup.Way)
    → onto xs (r >>= λ w. ok (lookup.above n i w)) ≡ onto (xs ++ record { slot = n; child = i } ∷ []) r
unfolding onto lookup.above
onto_above xs n i (refused k) = refl
onto_above xs n i (ok w) = rw (append_assoc xs (record { slot = n; child = i } ∷ []) w.steps)

-- ---- a turn

module _ (l : Lent) (s : State) (bs : load.Bounds) (n i d : ℕ) (key : List ℕ) (xs : List lookup.Step) (whole : Result lookup.Way)
    (hd : 0 < d) (ei : i ≡ way_index s.order key (node_at s n).entries) (inv : onto xs (lookup.way_from d l s bs n key) ≡ whole) where
  down : ℕ → Result lookup.Way
  down m =
      load.load_child l s bs n i >>= λ c. lookup.way_from m l c.state (load.child_bounds s.order bs (node_at s n).entries i) c.slot key
      >>= λ w. ok (lookup.above n i w)

  one_down : lookup.way_from d l s bs n key ≡ down (d - 1)
  unfolding lookup.way_from down
  one_down = let z : d ≡ suc (d - 1) = omega arith in ap (λ (m : ℕ). lookup.way_from m l s bs n key) z ∙ rw (← ei)

  pub way_refused : (x : ℕ) → refused x ≡ load.load_child l s bs n i → refused x ≡ whole
  unfolding onto down
  way_refused x e = sym (sym inv ∙ ap (onto xs) one_down ∙ rw (← e))

  module _ (a : load.At) (e : ok a ≡ load.load_child l s bs n i) where
    pub way_down : (b inner : Bounds Position) → bs ≡ bounds_of s b → BoundsIn (length s.nodes) b → bounds_of s inner ≡ load.child_bounds s.order bs
        (node_at s n).entries i
        → (BoundsIn (length s.nodes) b → n < length s.nodes → BoundsIn (length s.nodes) inner)
        → onto (xs ++ record { slot = n; child = i } ∷ []) (lookup.way_from (d - 1) l a.state (bounds_of a.state inner) a.slot key) ≡ whole
    unfolding down
    way_down b inner eb hb ec f =
        let u : n < length s.nodes = loaded_used l s bs n i a (sym e) in
        let k : bounds_of a.state inner ≡ load.child_bounds s.order bs (node_at s n).entries i = bounds_kept l s bs n i a (sym e) inner (f hb u)
        ∙ ec in
        let z : lookup.way_from d l s bs n key ≡ (lookup.way_from (d - 1) l a.state (load.child_bounds s.order bs (node_at s n).entries i)
        a.slot key >>= λ w. ok (lookup.above n i w)) = one_down ∙ rw (← e) in
        rw k (sym (onto_above xs n i (lookup.way_from (d - 1) l a.state (load.child_bounds s.order bs (node_at s n).entries i) a.slot key))
        ∙ sym (ap (onto xs) z) ∙ inv)

    pub down_in : (b inner : Bounds Position) → BoundsIn (length s.nodes) b
        → (BoundsIn (length s.nodes) b → n < length s.nodes → BoundsIn (length s.nodes) inner) → BoundsIn (length a.state.nodes) inner
    down_in b inner hb f =
        let u : n < length s.nodes = loaded_used l s bs n i a (sym e) in
        let m : length s.nodes ≤ length a.state.nodes = (load_keeps l s bs n i a (sym e)).more in
        let g : BoundsIn (length s.nodes) inner = f hb u in
        record {
          lower = IfSome_then inner.lower g.lower (λ x h. omega arith);
          upper = IfSome_then inner.upper g.upper (λ x h. omega arith);
        }

-- ---- as the code has it

pub onto_none : (r : Result lookup.Way) → onto [] r ≡ r
unfolding onto
onto_none (refused k) = refl
onto_none (ok w) = refl

pub way_start : (l : Lent) (s : State) (level n : ℕ) (key : List ℕ) (way : List code.Position) → way ≡ []
    → onto (steps_in way) (lookup.way_from level l s (bounds_of s (record { lower = None; upper = None })) n key)
    ≡ lookup.way_from level l s load.unbounded n key
unfolding steps_of bounds_of bound_of load.unbounded
way_start l s level n key way e = rw e (onto_none (lookup.way_from level l s load.unbounded n key))

pub none_in_lem : (used : ℕ) → BoundsIn used (record { lower = None; upper = None })
none_in_lem used = record { lower = tt; upper = tt }

module _ (l : Lent) (size : ℕ) (t : Tree) (heads bytes : List ℕ) (b inner : Bounds Position) (n i level k : ℕ)
    (key : List ℕ) (way : List code.Position)
    (whole : Result lookup.Way)
    (hk : k < level) (ei : i ≡ way_index t.order.code key (node_at (state_of size t heads bytes) n).entries)
    (inv : onto (steps_in way) (lookup.way_from (level - k) l (state_of size t heads bytes) (bounds_of (state_of size t heads bytes) b) n key)
    ≡ whole)
    (heads' bytes' : List ℕ) (x : std.Result (Tree × ℕ) Refusal)
    (e : loaded_of size heads' bytes' x ≡ load.load_child l (state_of size t heads bytes) (bounds_of (state_of size t heads bytes) b) n i) where
  pub turn_refused : (y : Refusal) → x ≡ Err y → way_of size heads' bytes' (Err y) ≡ whole
  unfolding way_of loaded_of state_of
  turn_refused y q =
      way_refused l (state_of size t heads bytes) (bounds_of (state_of size t heads bytes) b) n i (level - k) key (steps_in way) whole
      (omega arith) ei inv
      (number_of y) (ap (loaded_of size heads' bytes') (sym q) ∙ e)

  pub turn_more : (t' : Tree) (c : ℕ) → x ≡ Ok (t', c) → t.used ≤ t'.used
  unfolding loaded_of
  turn_more t' c q =
      let z : ok (record { state = state_of size t' heads' bytes'; slot = c }) ≡ load.load_child l (state_of size t heads bytes)
      (bounds_of (state_of size t heads bytes) b) n i = ap (loaded_of size heads' bytes') (sym q) ∙ e in
      omega (
        arith,
        (load_keeps l (state_of size t heads bytes) (bounds_of (state_of size t heads bytes) b) n i
            (record { state = state_of size t' heads' bytes'; slot = c }) (sym z)).more,
        used_nodes size t heads bytes,
        used_nodes size t' heads' bytes',
      )

  module _ (t' : Tree) (c : ℕ) (q : x ≡ Ok (t', c)) (hb : BoundsIn t.used b)
      (ec : bounds_of (state_of size t heads bytes) inner ≡ load.child_bounds t.order.code (bounds_of (state_of size t heads bytes) b)
      (node_at (state_of size t heads bytes) n).entries i)
      (f : BoundsIn t.used b → n < t.used → BoundsIn t.used inner) where
    at_is : ok (record { state = state_of size t' heads' bytes'; slot = c }) ≡ load.load_child l (state_of size t heads bytes)
        (bounds_of (state_of size t heads bytes) b) n i
    unfolding loaded_of
    at_is = ap (loaded_of size heads' bytes') (sym q) ∙ e

    nodes : length (state_of size t heads bytes).nodes ≡ t.used
    nodes = used_nodes size t heads bytes

    hb' : BoundsIn (length (state_of size t heads bytes).nodes) b
    hb' = rw nodes hb

    f' : BoundsIn (length (state_of size t heads bytes).nodes) b → n < length (state_of size t heads bytes).nodes
        → BoundsIn (length (state_of size t heads bytes).nodes) inner
    f' = rw nodes f

    pub turn_in : BoundsIn t'.used inner
    unfolding state_of
    turn_in =
        let z : BoundsIn (length (state_of size t' heads' bytes').nodes) inner =
        down_in l (state_of size t heads bytes) (bounds_of (state_of size t heads bytes) b) n i (level - k) key (steps_in way) whole
        (omega arith) ei inv
        (record { state = state_of size t' heads' bytes'; slot = c }) at_is b inner hb' f' in
        rw (used_nodes size t' heads' bytes') at z

    pub turn_down : (way' : List code.Position) → way' ≡ way ++ record { slot = n; index = i } ∷ [] → onto (steps_in way')
        (lookup.way_from (level - (k + 1)) l (state_of size t' heads' bytes') (bounds_of (state_of size t' heads' bytes') inner) c key) ≡ whole
    unfolding state_of
    turn_down way' h =
        let e : level - (k + 1) ≡ level - k - 1 = omega arith in
        rw (steps_next way way' n i h, e)
        (way_down l (state_of size t heads bytes) (bounds_of (state_of size t heads bytes) b) n i (level - k) key (steps_in way) whole
        (omega arith) ei inv
        (record { state = state_of size t' heads' bytes'; slot = c }) at_is b inner refl hb' ec f')

pub way_end : (l : Lent) (size : ℕ) (t : Tree) (heads bytes : List ℕ) (bs : load.Bounds) (n level k : ℕ) (key : List ℕ) (way : List code.Position)
    (whole : Result lookup.Way)
    → level ≤ k → onto (steps_in way) (lookup.way_from (level - k) l (state_of size t heads bytes) bs n key) ≡ whole
    → (taken : Steps) → positions taken ≡ way ++ record { slot = n; index = 0 } ∷ []
    → way_of size heads bytes (Ok (record { tree = t; steps = taken })) ≡ whole
unfolding way_of walked_of onto lookup.way_from
way_end l size t heads bytes bs n level k key way whole hk inv taken h =
    let z : level - k ≡ 0 = omega arith in
    rw (steps_next way (positions taken) n 0 h) (ap (λ (m : ℕ). onto (steps_in way) (lookup.way_from m l (state_of size t heads bytes) bs n key))
    (sym z)
    ∙ inv)

pub ready_at : (size slots : ℕ) (heads bytes : List ℕ) (x : std.Result (Tree × ℕ) Refusal) (t : Tree) (c : ℕ) → x ≡ Ok (t, c)
    → ReadyAfter size slots heads bytes x
    → Ready size slots t.used heads bytes
ready_at size slots heads bytes x t c q r = subst (ReadyAfter size slots heads bytes) q r

pub ruleset way_down_laws = (way_start, none_in_lem, turn_refused, turn_in, turn_down, ready_at, way_end)
