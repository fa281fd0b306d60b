-- Laws of remove as a call: the way, the key's place, the edit; 12 first, slots brought back on a refusal. Assumes nothing.
use Rattle.std.specs.Prelude.{suc, ◌≡◌, refl, List, [], Bool, ◌&&◌, ℕ, ◌-◌, ◌≤◌, ◌<◌, length, leb, ltb}
use Rattle.std.proofs.Math.Path.{sym, ap, ap₂}
use Rattle.std.proofs.Common.{subst, ◌∙◌, arith}
use Rattle.std.proofs.Math.Bool.{true, false}
use Rattle.node.specs.laws.base.Tests.{by_test}
use Rattle.node.specs.Result.{ok, ◌>>=◌}
use Rattle.node.specs.Order.{keyed_length, keyed}
use Rattle.node.specs.Entry.{Entry}
use Rattle.node.specs.Find.{place_of, is_there}
use Rattle.node.specs.Slot.{remove_at}
use Rattle.tree.specs.Lent as lent
use Rattle.tree.specs.Lent.{lent_of}
use Rattle.tree.specs.State.{State, node_at, put_node, with_entries}
use Rattle.tree.specs.Load.{unbounded}
use Rattle.tree.specs.Lookup as lookup
use Rattle.tree.specs.Edit.{touch}
use Rattle.tree.specs.Remove.{drop_emptied, take_from_leaf, shrunk_on, remove_on, removed, remove_in}
use Rattle.tree.specs.Workspace.{state_of}
use Rattle.tree.specs.Answers.{edited_of, removed_of}
use Rattle.tree.specs.internal.Bank.{Ready, ReadyBy, ReadyAfter}
use Rattle.tree.specs.internal.Undo.{Follows}
use Rattle.tree.specs.internal.Steps.{positions}
use Rattle.tree.specs.internal.Way.{nth_step, steps_of, steps_in, walked_of, way_of}
use Rattle.tree.specs.internal.Found.{FoundAt}
use Rattle.tree.specs.internal.Writers.{SpotIn}
use Rattle.tree.specs.laws.slots.FoundAt.{found_spot}
use Rattle.tree.specs.internal.Edits.{Trusts}
use Rattle.tree.specs.internal.Removing.{taken_on, shrunk_at, removed_at, OnWay}
use Rattle.tree.specs.laws.slots.Undo.{follows_on}
use Rattle.tree.specs.laws.slots.Tree.{used_nodes}
use Rattle.tree.specs.laws.state.OneLeaf.{touch_marks, touch_order}
use Rattle.tree.specs.laws.trust.Named.{live_used}
use Rattle.tree.specs.laws.trust.Stands.{all, trusted_of}
use Rattle.tree.specs.laws.trust.Loads.{WayLoaded, way_root}
use Rattle.tree.specs.laws.trust.Edit.{down_leaf}
use Rattle.tree.specs.laws.trust.Remove.{trusted_remove}
use Rattle.tree.specs.laws.room.Calls.{roomy_remove}
use Rattle.tree.specs.laws.lookup.GetCall.{leaf_last, way_low, get_some, get_ready}
use Rattle.tree.specs.declared.editor.Tree.{Tree}
use Rattle.tree.specs.declared.floor.Spot.{Spot}
use Rattle.tree.specs.declared.lent.Lent.{Lent}
use Rattle.tree.specs.declared.way.Way.{Way}
use Rattle.std.specs.Prelude as std
use Rattle.std.specs.Prelude.{Ok, Err, is_ok}
use Rattle.node.specs.declared.refusal.Refusal.{Refusal}
use Rattle.node.specs.declared.refusal.Refusal.TheVariants as is
use Rattle.tree.specs.declared.editor.Position as code

-- ---- the edit by the place is the edit by the key

not_ok : (f : std.Result Spot Spot) → ((spot : Spot) → f ≡ Ok spot → ⊥) → is_ok f ≡ false
not_ok (Ok spot) h = absurd (h spot refl)
not_ok (Err spot) h = refl

taken_same : (i : ℕ) (ps : List lookup.Step) (s : State) (k : List ℕ) → i ≡ place_of s.order k (node_at s (lookup.leaf_of ps)).entries
    → taken_on i ps s ≡ take_from_leaf (touch ps s) (lookup.leaf_of ps) k
unfolding taken_on take_from_leaf
taken_same i ps s k e =
    let t : State = touch ps s in
    let n : ℕ = lookup.leaf_of ps in
    let q : i ≡ place_of (touch ps s).order k (node_at (touch ps s) (lookup.leaf_of ps)).entries =
    e ∙ sym (ap₂ (λ (o : ℕ) (es : List Entry). place_of o k es) (touch_order ps s) ((touch_marks ps s).entries n)) in
    ap (λ (j : ℕ). put_node t n (with_entries (node_at t n) (remove_at j (node_at t n).entries))) q

removed_is : (l : lent.Lent) (i : ℕ) (w : lookup.Way) (k : List ℕ)
    → i ≡ place_of w.state.order k (node_at w.state (lookup.leaf_of w.steps)).entries
    → removed_at l i w ≡ remove_on l k w
unfolding removed_at shrunk_at remove_on shrunk_on
removed_is l i w k e =
    let s : State = w.state in
    let d = drop_emptied w.steps (take_from_leaf (touch w.steps s) (lookup.leaf_of w.steps) k) in
    rw (taken_same i w.steps w.state k e)
    (by_test (ltb 0 s.info.key_count && leb d.nodes s.info.node_count) (λ t. rw t) (λ t. rw t))

-- ---- the way, then the leaf

root_is : (size : ℕ) (t : Tree) (h b : List ℕ) → (state_of size t h b).root ≡ t.root
unfolding state_of
root_is size t h b = refl

module _ (image : List ℕ) (l : Lent) (t : Tree) (h0 b0 : List ℕ) (c : Trusts image l t h0 b0) (level : ℕ)
    (ev : level ≡ (node_at (state_of l.size t h0 b0) t.root).level) where
  abbrev m : lent.Lent
  m = lent_of image l

  abbrev s : State
  s = state_of l.size t h0 b0

  pub remove_low : level ≤ 32
  remove_low = way_low m l.size t h0 b0 c.trust level ev

  module _ (key h b : List ℕ) (r : std.Result Way Refusal)
      (ew : way_of l.size h b r ≡ lookup.way_from level (lent_of image l) (state_of l.size t h0 b0) unbounded t.root key) where
    way_is : lookup.way m s key ≡ way_of l.size h b r
    unfolding lookup.way
    way_is =
        ap₂ (λ (n d : ℕ). lookup.way_from d m s unbounded n key) (root_is l.size t h0 b0)
        (ap (λ (n : ℕ). (node_at s n).level) (root_is l.size t h0 b0) ∙ sym ev) ∙ sym ew

    pub remove_lost : (x : Refusal) → r ≡ Err x → removed_of l.size h b (Err x)
        ≡ removed (lent_of image l) (state_of l.size t h0 b0) key
    unfolding removed_of removed way_of
    remove_lost x e = sym (rw (way_is, e))

    module _ (w : Way) (e : r ≡ Ok w) where
      abbrev s' : State
      s' = state_of l.size w.tree h b

      abbrev ps : List lookup.Step
      ps = steps_in (positions w.steps)

      arrives : lookup.way m s key ≡ ok (record { state = s'; steps = ps })
      unfolding way_of walked_of
      arrives = way_is ∙ rw e

      loads : WayLoaded m all all s s.root s' ps
      loads = (way_root m s key (trusted_of m s c.trust).1).at (record { state = s'; steps = ps }) arrives

      pub remove_some : 1 ≤ length (positions w.steps)
      remove_some = get_some m l.size t h0 b0 c.trust level ev key [] h b r ew w e

      pub remove_ready : ReadyBy (λ w. w.tree) l.size l.slots h b r → Ready l.size l.slots w.tree.used h b
      remove_ready y = get_ready m l.size t h0 b0 c.trust level ev key [] h b r ew w e l.slots y

      last : lookup.leaf_of ps ≡ (nth_step (positions w.steps) (length (positions w.steps) - 1)).slot
      unfolding steps_of
      last =
          let z : length (positions w.steps) ≡ suc (length (positions w.steps) - 1) = omega (arith, remove_some) in
          ap (λ (k : ℕ). lookup.leaf_of (steps_of (positions w.steps) k)) z
          ∙ leaf_last (steps_of (positions w.steps) (length (positions w.steps) - 1)) (record {
            slot = (nth_step (positions w.steps) (length (positions w.steps) - 1)).slot;
            child = (nth_step (positions w.steps) (length (positions w.steps) - 1)).index;
          })

      pub remove_leaf : (n : ℕ) → n ≡ (nth_step (positions w.steps) (length (positions w.steps) - 1)).slot → n < w.tree.used
      remove_leaf n en = omega (arith, last, en, live_used s' (lookup.leaf_of ps) (down_leaf s' ps loads.down).0, used_nodes l.size w.tree h b)

      remove_more : t.used ≤ w.tree.used
      remove_more = omega (arith, loads.loaded.loads.longer, used_nodes l.size t h0 b0, used_nodes l.size w.tree h b)

      pub remove_back : (h1 b1 : List ℕ) → Follows l.size l.slots t.used h0 b0 h b → Follows l.size l.slots w.tree.used h b h1 b1
          → Follows l.size l.slots t.used h0 b0 h1 b1
      remove_back h1 b1 f g = follows_on l.size l.slots t.used w.tree.used h0 b0 h b h1 b1 f g remove_more

      order_same : s'.order ≡ s.order
      order_same = loads.loaded.loads.order

      module _ (n : ℕ) (en : n ≡ (nth_step (positions w.steps) (length (positions w.steps) - 1)).slot) (f : std.Result Spot Spot)
          (ef : FoundAt l.size (state_of l.size w.tree h b) h b n key f) where
        ends : lookup.leaf_of ps ≡ n
        ends = last ∙ sym en

        there : is_there s.order key (node_at s' (lookup.leaf_of ps)).entries ≡ is_ok f
        there = ap₂ (λ (o j : ℕ). is_there o key (node_at s' j).entries) (sym order_same) ends ∙ sym ef.there

        pub remove_absent : ((spot : Spot) → f ≡ Ok spot → ⊥)
            → removed_of l.size h b (Ok (w.tree, false)) ≡ removed (lent_of image l) (state_of l.size t h0 b0) key
        unfolding removed_of removed
        remove_absent z = sym (rw (arrives, there, not_ok f z))

        module _ (spot : Spot) (z : f ≡ Ok spot) (way : List code.Position) (es : way ≡ positions w.steps) where
          found : is_ok f ≡ true
          found = rw z

          at_leaf : FoundAt l.size (state_of l.size w.tree h b) h b n key (Ok spot)
          at_leaf = subst (FoundAt l.size (state_of l.size w.tree h b) h b n key) z ef

          place : spot.index ≡ place_of s'.order key (node_at s' (lookup.leaf_of ps)).entries
          place = at_leaf.place ∙ ap (λ (j : ℕ). place_of s'.order key (node_at s' j).entries) (sym ends)

          pub remove_on_way : OnWay (lent_of image l) (state_of l.size w.tree h b) (steps_in way) spot.index
          unfolding lent_of
          remove_on_way = rw es (record { from = s; key = key; trust = c.trust; roomy = c.roomy; came = arrives; place = place })

          leaf_taken : (nth_step way (length way - 1)).slot ≡ n
          leaf_taken = rw es (sym en)

          pub remove_slot : spot.slot ≡ (nth_step way (length way - 1)).slot
          remove_slot = at_leaf.slot ∙ sym leaf_taken

          pub remove_spot : SpotIn l.size w.tree.used h b spot
          remove_spot = found_spot l.size w.tree.used (state_of l.size w.tree h b) h b key n (remove_leaf n en) spot at_leaf

          module _ (a : std.Result Tree Refusal) (h1 b1 : List ℕ)
              (ea : edited_of l.size h1 b1 a ≡ removed_at (lent_of image l) spot.index (record {
                state = state_of l.size w.tree h b;
                steps = steps_in way;
              })) where
            edits_is : edited_of l.size h1 b1 a ≡ remove_on m key (record { state = s'; steps = ps })
            edits_is = ea ∙ ap (λ (qs : List code.Position). removed_at m spot.index (record { state = s'; steps = steps_in qs })) es
                ∙ removed_is m spot.index (record { state = s'; steps = ps }) key place

            removes_is : removed m s key ≡ (edited_of l.size h1 b1 a >>= λ u. ok (record { state = u; present = true }))
            unfolding removed
            removes_is = rw (arrives, there, found, ← edits_is)

            pub remove_stops : (x : Refusal) → a ≡ Err x
                → removed_of l.size h1 b1 (Err x) ≡ removed (lent_of image l) (state_of l.size t h0 b0) key
            unfolding removed_of edited_of
            remove_stops x q = sym (removes_is ∙ rw q)

            pub remove_done : (u : Tree) → a ≡ Ok u
                → removed_of l.size h1 b1 (Ok (u, true)) ≡ removed (lent_of image l) (state_of l.size t h0 b0) key
            unfolding removed_of edited_of
            remove_done u q = sym (removes_is ∙ rw q)

-- ---- remove as a call: 12 first, marks cleared

module _ (image : List ℕ) (l : Lent) (t : Tree) (h0 b0 key : List ℕ) (c : Trusts image l t h0 b0) (k : Bool)
    (ek : k ≡ keyed_length t.order.code (length key)) where
  keyed_is : keyed (state_of l.size t h0 b0).order key ≡ k
  unfolding state_of keyed
  keyed_is = sym ek

  pub call_argument : k ≡ false → removed_of l.size h0 b0 (Err is.Argument) ≡ remove_in (lent_of image l) (state_of l.size t h0 b0) key
  unfolding removed_of remove_in
  call_argument n = sym (rw (keyed_is, n))

  pub call_answer : k ≡ true → (h b : List ℕ) → state_of l.size t h b ≡ state_of l.size t h0 b0
      → removed (lent_of image l) (state_of l.size t h b) key ≡ remove_in (lent_of image l) (state_of l.size t h0 b0) key
  call_answer n h b es = ap (λ (x : State). removed (lent_of image l) x key) es ∙ sym passes
    where
      passes : remove_in (lent_of image l) (state_of l.size t h0 b0) key ≡ removed (lent_of image l) (state_of l.size t h0 b0) key
      passes = unfold remove_in in rw (keyed_is, n)

module _ (image : List ℕ) (l : Lent) (t : Tree) (h0 b0 key : List ℕ) (c : Trusts image l t h0 b0) (h b : List ℕ)
    (r : std.Result (Tree × Bool) Refusal)
    (e : removed_of l.size h b r ≡ removed (lent_of image l) (state_of l.size t h0 b0) key) where
  trusts_of : (u : Tree) (p : Bool) → ok (record {
    state = state_of l.size u h b;
    present = p;
  }) ≡ removed (lent_of image l) (state_of l.size t h0 b0) key
      → Ready l.size l.slots u.used h b → Trusts image l u h b
  unfolding lent_of
  trusts_of u p q y =
      record {
        ready = y;
        trust = (trusted_remove (lent_of image l) (state_of l.size t h0 b0) key c.trust).at _ (sym q);
        roomy = (roomy_remove (lent_of image l) (state_of l.size t h0 b0) key c.trust c.roomy).at _ (sym q);
      }

  pub call_same : (r' : std.Result (Tree × Bool) Refusal) → r ≡ r'
      → removed_of l.size h b r' ≡ removed (lent_of image l) (state_of l.size t h0 b0) key
  call_same r' q = ap (removed_of l.size h b) (sym q) ∙ e

  pub call_done : (u : Tree) (there : Bool) → r ≡ Ok (u, there) → ReadyAfter l.size l.slots h b r → Trusts image l u h b
  unfolding removed_of
  call_done u there q y = trusts_of u there (call_same (Ok (u, there)) q) (subst (ReadyAfter l.size l.slots h b) q y)

pub ruleset removed_laws = (
  remove_lost,
  remove_stops,
  remove_low,
  remove_some,
  remove_ready,
  remove_leaf,
  remove_back,
  remove_absent,
  remove_on_way,
  remove_slot,
  remove_spot,
  remove_done,
)
