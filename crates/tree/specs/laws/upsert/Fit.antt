-- On the way of an upsert each index key fits where it is set, and each cut finds its parent with room: what `index_keys` and `cuts` ask. Assumes
-- nothing.
use Rattle.std.specs.Prelude.{◌≡◌}
use Rattle.std.proofs.Common.{sym, ap, ◌∙◌, le_refl, le_trans, arith}
use Rattle.std.proofs.Math.Path.{subst}
use mathlib.Core.List.{List, [], ◌∷◌}
use Rattle.std.proofs.Math.Bool.{false}
use Prim.Native.Nat.{ℕ, zero, suc, ◌+◌, ◌-◌, ◌*◌, ◌≤◌, ◌<◌}
use Rattle.std.proofs.Math.ListN.{length}
use Rattle.node.specs.Entry.{Val}
use Rattle.node.specs.Find.{key_at}
use Rattle.node.specs.Fit.{Sized}
use Rattle.node.specs.Result.{ok}
use Rattle.node.specs.Slot.{MemNode}
use Rattle.node.specs.declared.info.BTreeInfo.{BTreeInfo}
use Rattle.tree.specs.Lent as lent
use Rattle.tree.specs.State.{State, node_at}
use Rattle.tree.specs.Lookup.{Step, leaf_of}
use Rattle.tree.specs.Edit.{touch, index_keys, cuts}
use Rattle.tree.specs.Upsert.{put_in_leaf}
use Rattle.tree.specs.Workspace.{state_of}
use Rattle.tree.specs.internal.Room.{Roomy}
use Rattle.tree.specs.internal.Index.{KeyFits, steps_from, IndexRoom}
use Rattle.tree.specs.internal.Edits.{step_at, above_of, ParentFits, CutsFit}
use Rattle.tree.specs.laws.trust.Named.{names_same}
use Rattle.tree.specs.laws.trust.Stands.{Stands, all}
use Rattle.tree.specs.laws.trust.OneStep.{Like, like_then}
use Rattle.tree.specs.laws.trust.Loads.{Down}
use Rattle.tree.specs.laws.trust.Edit.{on_way, falls_used, down_falls}
use Rattle.tree.specs.laws.trust.Upsert.{inner, down_inner, down_once}
use Rattle.tree.specs.laws.state.OneLeaf.{touch_marks}
use Rattle.tree.specs.laws.room.Weight.{weight}
use Rattle.tree.specs.laws.room.Calls.{weight_size}
use Rattle.tree.specs.laws.room.Edit.{KeysMost, keys_indexes, index_room, index_count, Indexed, Aside, cuts_aside, cuts_room}
use Rattle.tree.specs.laws.room.Each.{Each, keys_at_most, each_keys, roomy_keys, each_touch, each_leaf, keys_put}
use Rattle.tree.specs.laws.upsert.Room.{leaf_other, put_inner, put_indexed}
use Rattle.tree.specs.declared.editor.Tree.{Tree}
use Rattle.tree.specs.laws.upsert.WayKept.{from_step, from_each, from_two, touch_dead, leaf_dead, index_dead, index_long, touch_count, leaf_count, leaf_like, index_info, cuts_like, sized_like}
use Rattle.tree.specs.laws.upsert.WayKept.{down_tail, down_first, down_child, down_some, indexed_tail, indexed_first, two_off, two_apart}
use Rattle.tree.specs.declared.editor.Position as code
use Rattle.tree.specs.internal.Way.{nth_step}

module _ (l : lent.Lent) (k : List ℕ) (v : Val) (s : State) (way : List code.Position) (st : Stands all all s)
    (down : Down s (steps_from way 0 (length way))) (roomy : Roomy (2 * l.size) s) where
  abbrev ps : List Step
  ps = steps_from way 0 (length way)

  abbrev put : State
  put = put_in_leaf (touch ps s) (leaf_of ps) k v

  abbrev keyed : State
  keyed = index_keys ps put

  down_from : (j : ℕ) → j < length way → Down s (steps_from way j (length way - j))
  down_from = from_each way (Down s) (down_tail s) down

  inner_from : (j : ℕ) → j < length way → (c : ℕ) → inner c (steps_from way j (length way - j)) ≤ inner c ps
  inner_from = from_each way (λ xs. (c : ℕ) → inner c xs ≤ inner c ps) (λ x y xs f c. omega (arith, f c)) (λ c. le_refl _)

  dead_put_lem : (c : ℕ) → (node_at put c).dead ≡ (node_at s c).dead
  dead_put_lem c = leaf_dead (touch ps s) (leaf_of ps) k v c ∙ touch_dead ps s c

  dead_keyed : (c : ℕ) → (node_at keyed c).dead ≡ (node_at s c).dead
  dead_keyed c = index_dead ps put c ∙ dead_put_lem c

  put_long : length put.nodes ≡ length s.nodes
  put_long = leaf_count (touch ps s) (leaf_of ps) k v ∙ touch_count ps s

  keyed_long : length keyed.nodes ≡ length s.nodes
  keyed_long = index_count ps put ∙ put_long

  like_keyed : Like s.info keyed.info
  like_keyed =
      subst (λ (t : BTreeInfo). Like t keyed.info) (touch_marks ps s).info
      (subst (λ (t : BTreeInfo). Like (touch ps s).info t) (sym (index_info ps put)) (leaf_like (touch ps s) (leaf_of ps) k v))

  off_leaf : (c : ℕ) → 1 ≤ inner c ps → c ≡ leaf_of ps → ⊥
  off_leaf c h e = let z : inner c ps ≡ inner (leaf_of ps) ps = ap (λ (j : ℕ). inner j ps) e in omega (arith, down_inner all all s ps st down)

  -- above the leaf each slot has as many entries as before
  entries_keyed : (c : ℕ) → 1 ≤ inner c ps → length (node_at keyed c).entries ≡ length (node_at s c).entries
  entries_keyed c h =
      index_long ps put c
      ∙ ap (λ (m : MemNode). length m.entries) (leaf_other (touch ps s) (leaf_of ps) k v c (off_leaf c h))
      ∙ ap length ((touch_marks ps s).entries c)

  keys_after : (b : ℕ) → length k ≤ b → Each (keys_at_most b) s → KeysMost b put
  keys_after b h f =
      each_keys b put (each_leaf (keys_at_most b) (touch ps s) (leaf_of ps) k v
      (λ d. keys_put b (touch ps s).order (record { key = k; value = v }) (node_at (touch ps s) (leaf_of ps)).entries h
      ((each_touch (keys_at_most b) ps s f).at (leaf_of ps) d))
      (each_touch (keys_at_most b) ps s f))

  module _ (i : ℕ) (h : suc i < length way) where
    abbrev x : Step
    x = step_at way i

    abbrev y : Step
    y = step_at way (suc i)

    abbrev xs : List Step
    xs = steps_from way (suc (suc i)) (length way - suc (suc i))

    down_two : Down s (x ∷ y ∷ xs)
    down_two = from_two way (Down s) i h (down_from i (omega arith))

    once_two : (c : ℕ) → on_way c (x ∷ y ∷ xs) ≤ 1
    once_two c = down_once all all s (x ∷ y ∷ xs) c st down_two

    inner_two : 1 ≤ inner x.slot ps
    inner_two =
        let f = from_two way (λ zs. (c : ℕ) → inner c zs ≤ inner c ps) i h (inner_from i (omega arith)) in
        omega (arith, f x.slot, names_same x.slot)

  -- ---- index keys

  module _ (short : length k ≤ 65535) (small : length k ≤ 2 * l.size) (few : Each (keys_at_most 65535) s) (scratch : ℕ)
      (wide : 2 * l.size ≤ scratch) where
    index_fits : (i : ℕ) → suc i < length way
        → KeyFits l.size (index_keys (steps_from way (suc i) (length way - suc i)) put) (nth_step way i).slot (nth_step way (suc i)).slot scratch
    unfolding step_at
    index_fits i h =
        let u : State = index_keys (y i h ∷ xs i h) put in
        let live : (node_at u (y i h).slot).dead ≡ false = index_dead (y i h ∷ xs i h) put (y i h).slot ∙ dead_put_lem (y i h).slot
        ∙ down_first s (y i h) (xs i h) (down_tail s (x i h) (y i h) (xs i h) (down_two i h)) in
        let big : KeysMost (2 * l.size) put = keys_after (2 * l.size) small (roomy_keys (2 * l.size) s roomy) in
        let w : weight (node_at u (x i h).slot).entries + length (key_at (node_at u (y i h).slot).entries 0) ≤ 2 * (2 * l.size) =
        index_room (2 * l.size) (x i h) (y i h) (xs i h) put (two_off (x i h) (y i h) (xs i h) (once_two i h))
        (put_inner (2 * l.size) k v s ps st down roomy (x i h).slot (inner_two i h)) big live in
        subst (λ (zs : List Step). KeyFits l.size (index_keys zs put) (nth_step way i).slot (nth_step way (suc i)).slot scratch)
        (sym (from_step way (suc i) h))
        (record {
          slot = omega (arith, weight_size (node_at u (x i h).slot).entries);
          short = let m = (keys_indexes 65535 (y i h ∷ xs i h) put (keys_after 65535 short few)).most (y i h).slot 0 live in omega arith;
          copied = let m = (keys_indexes (2 * l.size) (y i h ∷ xs i h) put big).most (y i h).slot 0 live in omega arith;
        })

    pub upsert_index_room : (t : Tree) (heads bytes : List ℕ) → state_of l.size t heads bytes ≡ put
        → IndexRoom l.size t heads bytes way scratch
    upsert_index_room t heads bytes q =
        record {
          turn = λ j u w.
              let z : suc (j - 1) ≡ j = omega arith in
              rw q (subst (λ (n : ℕ). KeyFits l.size (index_keys (steps_from way n (length way - n)) put) (nth_step way (j - 1)).slot
              (nth_step way n).slot
              scratch) z (index_fits (j - 1) (omega arith)));
        }

  -- ---- cuts

  put_used : (c : ℕ) → 1 ≤ on_way c ps → c < length put.nodes
  put_used c h = omega (arith, put_long, falls_used s ps (down_falls all all s ps st down) c h)

  indexed_from : (j : ℕ) → j < length way → Indexed (2 * l.size) keyed (steps_from way j (length way - j))
  indexed_from = from_each way (Indexed (2 * l.size) keyed) (indexed_tail (2 * l.size) keyed)
      (put_indexed (2 * l.size) k v s ps st down roomy put_used)

  module _ (j : ℕ) (h : j < length way) (u : State)
      (e : cuts l (step_at way j ∷ []) (steps_from way (suc j) (length way - suc j)) keyed ≡ ok u) where
    abbrev n : Step
    n = step_at way j

    abbrev ns : List Step
    ns = steps_from way (suc j) (length way - suc j)

    down_at : Down s (n ∷ ns)
    down_at = subst (Down s) (from_step way j h) (down_from j h)

    used_at : (c : ℕ) → 1 ≤ on_way c (n ∷ ns) → c < length keyed.nodes
    used_at c z = omega (arith, keyed_long, falls_used s (n ∷ ns) (down_falls all all s (n ∷ ns) st down_at) c z)

    aside : Aside n.slot ns keyed u
    aside =
        (cuts_aside l n ns keyed (λ c. down_once all all s (n ∷ ns) c st down_at) used_at
        (λ c z.
        let w : 1 ≤ inner c ps = le_trans z (subst (λ (zs : List Step). inner c zs ≤ inner c ps) (from_step way j h) (inner_from j h c)) in
        omega (arith, entries_keyed c w, down_some s (n ∷ ns) down_at c z))).at u e

    like_cut : Like s.info u.info
    like_cut = like_then s.info keyed.info u.info like_keyed ((cuts_like l n ns keyed).at u e)

    node_used : n.slot < length u.nodes
    node_used = le_trans (used_at n.slot (omega (arith, names_same n.slot))) aside.longer

  parent_fits : (i : ℕ) (h : suc i < length way) (u : State)
      → cuts l (step_at way (suc i) ∷ []) (steps_from way (suc (suc i)) (length way - suc (suc i))) keyed ≡ ok u
      → ParentFits l.size u (step_at way i) (step_at way (suc i)).slot
  parent_fits i h u e =
      let o : on_way (x i h).slot (y i h ∷ xs i h) ≡ 0 = two_off (x i h) (y i h) (xs i h) (once_two i h) in
      let a : (x i h).slot ≡ (y i h).slot → ⊥ = two_apart (x i h) (y i h) (xs i h) (once_two i h) in
      let used : (x i h).slot < length keyed.nodes = omega (
        arith,
        keyed_long,
        falls_used s (x i h ∷ y i h ∷ xs i h)
            (down_falls all all s (x i h ∷ y i h ∷ xs i h) st (down_two i h)) (x i h).slot (omega (arith, names_same (x i h).slot)),
      ) in
      let g = aside (suc i) h u e in
      let same : node_at u (x i h).slot ≡ node_at keyed (x i h).slot = g.off (x i h).slot used (omega arith) a in
      record {
        apart = a;
        within = le_trans used g.longer;
        alive = ap (λ (m : MemNode). m.dead) same ∙ dead_keyed (x i h).slot ∙ down_first s (x i h) (y i h ∷ xs i h) (down_two i h);
        child = omega (
          arith,
          ap (λ (m : MemNode). length m.entries) same,
          entries_keyed (x i h).slot (inner_two i h),
          down_child s (x i h) (y i h) (xs i h) (down_two i h),
        );
        room = cuts_room (2 * l.size) (x i h) (y i h) (xs i h) keyed u (once_two i h) used g
            (indexed_first (2 * l.size) keyed (x i h) (y i h) (xs i h) (from_two way (Indexed (2 * l.size) keyed) i h
            (indexed_from i (omega arith))));
      }

  no_parent : {C : Type 0} (z : Step) → ◌≡◌ {A = List Step} [] (z ∷ []) → C
  no_parent z q = let y : ◌≡◌ {A = ℕ} 0 1 = cc in absurd (omega arith)

  parent_at : (j : ℕ) (h : j < length way) (u : State)
      → cuts l (step_at way j ∷ []) (steps_from way (suc j) (length way - suc j)) keyed ≡ ok u
      → (z : Step) → above_of way j ≡ z ∷ [] → ParentFits l.size u z (step_at way j).slot
  unfolding above_of
  parent_at zero h u e z q = no_parent z q
  parent_at (suc i) h u e z q =
      let p : step_at way i ≡ z = cc in
      subst (λ (w : Step). ParentFits l.size u w (step_at way (suc i)).slot) p (parent_fits i h u e)

  -- when a slot of the way comes to be cut, its parent is in use and live, has it as a child, and takes at most two blocks' worth and its first key
  pub upsert_cuts_fit : Sized s.info → s.info.node_size ≡ l.size → CutsFit l keyed way
  unfolding step_at
  upsert_cuts_fit sized size =
      record {
        turn = λ j h u e. record {
          used = node_used j h u e;
          sized = sized_like s.info u.info (like_cut j h u e) sized;
          node = (like_cut j h u e).node ∙ size;
          parent = λ z q live. parent_at j h u e z q;
        };
      }
