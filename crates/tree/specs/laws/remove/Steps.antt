-- Laws of the edit of a remove, as the code does it: the leaf and emptied nodes, index keys, cuts, the root's place. Assumes nothing.
use Rattle.std.specs.Prelude.{◌≡◌, refl, List, [], ◌∷◌, true, ℕ, suc, ◌*◌, ◌≤◌, ◌<◌, length}
use Rattle.std.proofs.Common.{sym, subst, ◌∙◌, le_refl, le_trans, arith}
use Rattle.std.proofs.Math.Path.{ap}
use Rattle.node.specs.Result.{Result, ok, refused, ◌>>=◌}
use Rattle.node.specs.Find.{place_of}
use Rattle.node.specs.Slot.{MemNode}
use Rattle.node.specs.laws.base.Bytes.{Bytes}
use Rattle.node.specs.laws.base.Results.{Holds, holds_ok, holds_bind}
use Rattle.tree.specs.Lent as lent
use Rattle.tree.specs.Lent.{lent_of}
use Rattle.tree.specs.State.{State, node_at, put_node, with_root, with_place, made}
use Rattle.tree.specs.Trust.{trusted}
use Rattle.tree.specs.Lookup.{Step}
use Rattle.tree.specs.Lookup as lookup
use Rattle.tree.specs.Edit.{index_keys, parted, root_entries, grow_root, link_right, cut_node, cuts}
use Rattle.tree.specs.Remove.{hand_down}
use Rattle.tree.specs.Workspace.{state_of}
use Rattle.tree.specs.Answers.{edited_of}
use Rattle.tree.specs.internal.Bank.{Ready, ReadyTree}
use Rattle.tree.specs.internal.Undo.{Follows}
use Rattle.tree.specs.internal.Room.{Roomy}
use Rattle.tree.specs.internal.Way.{nth_step, steps_in, WayIn}
use Rattle.tree.specs.internal.Index.{Rewritten, steps_from, IndexRoom}
use Rattle.tree.specs.internal.Edits.{CutsFit}
use Rattle.tree.specs.internal.Removing.{DropRoom, taken_on, shrunk_at, removed_at, OnWay, SameUsed}
use Rattle.tree.specs.laws.state.State.{put_count, add_count}
use Rattle.tree.specs.laws.state.Edit.{parted_count}
use Rattle.tree.specs.laws.trust.Named.{live_used}
use Rattle.tree.specs.laws.slots.Tree.{used_nodes}
use Rattle.tree.specs.laws.slots.Undo.{follows_on}
use Rattle.tree.specs.laws.trust.Stands.{all, trusted_of}
use Rattle.tree.specs.laws.trust.Loads.{Down, WayLoaded, way_root, trusted_way}
use Rattle.tree.specs.laws.trust.Edit.{on_way, down_falls, falls_used}
use Rattle.tree.specs.laws.trust.Cut.{by_cut, by_top}
use Rattle.tree.specs.laws.trust.Upsert.{down_once}
use Rattle.tree.specs.laws.room.Calls.{roomy_way}
use Rattle.tree.specs.laws.room.Edit.{more_count, link_count}
use Rattle.tree.specs.laws.lookup.GetCall.{steps_long}
use Rattle.tree.specs.laws.remove.Ways.{from_start, on_way_lem}
use Rattle.tree.specs.laws.remove.Room.{bare_slots, index_fits}
use Rattle.tree.specs.laws.remove.Cuts.{cuts_slots}
use Rattle.tree.specs.laws.remove.HandDown.{trusted_root}
use Rattle.tree.specs.laws.remove.Chain.{drop_room, shrunk_roomy, shrunk_cuts, shrunk_trust}
use Rattle.tree.specs.declared.editor.Tree.{Tree}
use Rattle.tree.specs.declared.lent.Lent.{Lent}
use Rattle.std.specs.Prelude as std
use Rattle.std.specs.Prelude.{Ok, Err}
use Rattle.node.specs.Refusals.{number_of}
use Rattle.node.specs.declared.refusal.Refusal.{Refusal}
use Rattle.tree.specs.declared.editor.Position as code

-- ---- cuts take slots and give none back

grown_count : (s : State) (n r : ℕ) → length s.nodes ≤ length (grow_root s n r).nodes
unfolding grow_root with_root
grown_count s n r =
    let bare : MemNode = with_place (node_at s n) [] [] in
    let top : MemNode = with_place (made (suc (node_at s n).level) (root_entries s n r)) (node_at s n).block (node_at s n).id in
    omega (arith, add_count (put_node s n bare) top, put_count s n bare)

cut_longer : (l : lent.Lent) (x : Step) (n : ℕ) (s : State) → Holds (λ u. length s.nodes ≤ length u.nodes) (cut_node l (x ∷ []) n s)
cut_longer l x n s =
    by_cut (λ u. length s.nodes ≤ length u.nodes) l x n s (λ t. le_refl _)
    (λ c live ps room. omega (
      arith,
      more_count (link_right (parted s n c) x.slot x.child (length s.nodes)) 1,
      link_count (parted s n c) x.slot x.child (length s.nodes),
      parted_count s n c (live_used s n live),
    ))

top_longer : (l : lent.Lent) (n : ℕ) (s : State) → Holds (λ u. length s.nodes ≤ length u.nodes) (cut_node l [] n s)
top_longer l n s =
    by_top (λ u. length s.nodes ≤ length u.nodes) l n s (λ t. le_refl _)
    (λ c live ps h room. omega (
      arith,
      more_count (grow_root (parted s n c) n (length s.nodes)) 2,
      grown_count (parted s n c) n (length s.nodes),
      parted_count s n c (live_used s n live),
    ))

under_longer : (l : lent.Lent) (x : Step) (ps : List Step) (s : State) → Holds (λ u. length s.nodes ≤ length u.nodes) (cuts l (x ∷ []) ps s)
unfolding cuts
under_longer l x [] s = holds_ok (le_refl _)
under_longer l x (y ∷ ps) s =
    holds_bind (cuts l (y ∷ []) ps s) _ λ t e.
    record { at = λ u q. le_trans ((under_longer l y ps s).at t e) ((cut_longer l x y.slot t).at u q) }

cuts_longer : (l : lent.Lent) (ps : List Step) (s : State) → Holds (λ u. length s.nodes ≤ length u.nodes) (cuts l [] ps s)
unfolding cuts
cuts_longer l [] s = holds_ok (le_refl _)
cuts_longer l (x ∷ ps) s =
    holds_bind (cuts l (x ∷ []) ps s) _ λ t e.
    record { at = λ u q. le_trans ((under_longer l x ps s).at t e) ((top_longer l x.slot t).at u q) }

-- what fits with some lent fits with as many slots and as large blocks
fits_slots : (l l' : lent.Lent) (s : State) (way : List code.Position) → l'.slots ≡ l.slots → l'.size ≡ l.size → CutsFit l s way
    → CutsFit l' s way
fits_slots l l' s way e f c =
    record { turn = λ j h u q. rw f (c.turn j h u (sym (cuts_slots l l' _ _ s e) ∙ q)) }

-- ---- the definition

module _ (l : lent.Lent) (i : ℕ) (w : lookup.Way) where
  shrunk_refused : (x : ℕ) → refused x ≡ shrunk_at i w → refused x ≡ removed_at l i w
  unfolding removed_at
  shrunk_refused x e = rw (← e)

  module _ (v : State) (e : ok v ≡ shrunk_at i w) where
    shrunk_on_lem : removed_at l i w ≡ (cuts l [] w.steps (index_keys w.steps v) >>= λ t. hand_down (node_at t t.root).level l t)
    unfolding removed_at
    shrunk_on_lem = rw (← e)

    cut_refused : (x : ℕ) → refused x ≡ cuts l [] w.steps (index_keys w.steps v) → refused x ≡ removed_at l i w
    cut_refused x q = sym (shrunk_on_lem ∙ rw (← q))

    cut_done : (u : State) → ok u ≡ cuts l [] w.steps (index_keys w.steps v) → hand_down (node_at u u.root).level l u ≡ removed_at l i w
    cut_done u q = sym (shrunk_on_lem ∙ rw (← q))

-- ---- as the code comes to it

root_of_lem : (size : ℕ) (t : Tree) (h b : List ℕ) → (state_of size t h b).root ≡ t.root
unfolding state_of
root_of_lem size t h b = refl

slots_of_lem : (image : List ℕ) (l : Lent) → ((lent_of [] l).slots ≡ (lent_of image l).slots) × ((lent_of [] l).size ≡ (lent_of image l).size)
unfolding lent_of
slots_of_lem image l = (refl, refl)

size_of : (image : List ℕ) (l : Lent) → (lent_of image l).size ≡ l.size
unfolding lent_of
size_of image l = refl

module _ (image : List ℕ) (l : Lent) (t₀ : Tree) (h0 b0 : List ℕ) (way : List code.Position) (i : ℕ)
    (on : OnWay (lent_of image l) (state_of l.size t₀ h0 b0) (steps_in way) i) where
  abbrev m : lent.Lent
  m = lent_of image l

  abbrev s : State
  s = state_of l.size t₀ h0 b0

  abbrev ps : List Step
  ps = steps_in way

  came : WayLoaded m all all on.from on.from.root s ps
  came = (way_root m on.from on.key (trusted_of m on.from on.trust).1).at (record { state = s; steps = ps }) on.came

  trust_s : trusted m s ≡ true
  trust_s = (trusted_way m on.from on.key on.trust).at (record { state = s; steps = ps }) on.came

  roomy_s : Roomy (2 * m.size) s
  roomy_s = (roomy_way m on.from on.key on.trust on.roomy).at (record { state = s; steps = ps }) on.came

  top_root : came.top.slot ≡ s.root
  top_root = came.first ∙ sym came.loaded.loads.root

  down_top : Down s (came.top ∷ came.rest)
  down_top = rw came.steps at came.down

  place_top : i ≡ place_of s.order on.key (node_at s (lookup.leaf_of (came.top ∷ came.rest))).entries
  place_top = on.place ∙ ap (λ (qs : List Step). place_of s.order on.key (node_at s (lookup.leaf_of qs)).entries) came.steps

  whole : steps_from way 0 (length way) ≡ came.top ∷ came.rest
  whole = sym (from_start way (length way)) ∙ came.steps

  once : (c : ℕ) → on_way c ps ≤ 1
  once c = down_once all all s ps c came.loaded.stands came.down

  pub on_some : 1 ≤ length way
  on_some = let z = ap length came.steps in omega (arith, z, steps_long way (length way))

  pub on_in : WayIn t₀.used way
  on_in =
      record {
        slot = λ j h. omega (
          arith,
          falls_used s ps (down_falls all all s ps came.loaded.stands came.down) (nth_step way j).slot (on_way_lem way j h),
          used_nodes l.size t₀ h0 b0,
        );
      }

  pub on_root : t₀.root < t₀.used
  on_root = omega (arith, trusted_root m s trust_s, used_nodes l.size t₀ h0 b0, root_of_lem l.size t₀ h0 b0)

  pub on_drops : DropRoom (taken_on i (steps_in way) (state_of l.size t₀ h0 b0)) way
  on_drops =
      subst (λ (qs : List Step). DropRoom (taken_on i qs s) way) (sym came.steps)
      (drop_room m on.key i s came.top came.rest trust_s roomy_s top_root down_top place_top way whole)

  -- the leaf's entry out, emptied nodes dropped
  module _ (a : std.Result Tree Refusal) (h1 b1 : List ℕ)
      (ea : edited_of l.size h1 b1 a ≡ shrunk_at i (record { state = state_of l.size t₀ h0 b0; steps = steps_in way })) where
    pub on_refused : (x : Refusal) → a ≡ Err x
        → edited_of l.size h1 b1 (Err x) ≡ removed_at (lent_of image l) i (record {
          state = state_of l.size t₀ h0 b0;
          steps = steps_in way;
        })
    unfolding edited_of
    on_refused x q = shrunk_refused m i (record { state = s; steps = ps }) (number_of x) (ap (edited_of l.size h1 b1) (sym q) ∙ ea)

    module _ (t : Tree) (q : a ≡ Ok t) (r : ReadyTree l.size l.slots h1 b1 a) (same : SameUsed t₀.used a) where
      abbrev v : State
      v = state_of l.size t h1 b1

      is_done : ok v ≡ shrunk_at i (record { state = s; steps = ps })
      unfolding edited_of
      is_done = ap (edited_of l.size h1 b1) (sym q) ∙ ea

      is_top : shrunk_at i (record { state = s; steps = came.top ∷ came.rest }) ≡ ok v
      is_top = sym (subst (λ (qs : List Step). ok v ≡ shrunk_at i (record { state = s; steps = qs })) came.steps is_done)

      used_same : t.used ≡ t₀.used
      used_same = subst (SameUsed t₀.used) q same

      pub on_ready : Ready l.size l.slots t.used h1 b1
      on_ready = subst (ReadyTree l.size l.slots h1 b1) q r

      pub on_still : WayIn t.used way
      on_still = rw used_same on_in

      roomy_v : Roomy (2 * l.size) v
      roomy_v = subst (λ (k : ℕ). Roomy (2 * k) v) (size_of image l)
          (shrunk_roomy m on.key i s came.top came.rest trust_s roomy_s top_root down_top place_top v is_top)

      pub on_index : Bytes b1 → (scratch : ℕ) → 2 * l.size ≤ scratch → IndexRoom l.size t h1 b1 way scratch
      on_index bb scratch room = index_fits l.size l.slots t h1 b1 on_ready bb roomy_v way once scratch room

      -- index keys set
      module _ (h2 b2 : List ℕ) (w : Rewritten l.size l.slots t h1 b1 h2 b2 (index_keys (steps_in way) (state_of
          l.size t h1 b1))) where
        keyed : state_of l.size t h2 b2 ≡ index_keys (came.top ∷ came.rest) v
        keyed = w.state ∙ ap (λ (qs : List Step). index_keys qs v) came.steps

        pub on_keyed : Ready l.size l.slots t.used h2 b2
        on_keyed = w.ready

        pub on_cuts : CutsFit (lent_of [] l) (state_of l.size t h2 b2) way
        on_cuts =
            let (e, f) = slots_of_lem image l in
            fits_slots m (lent_of [] l) (state_of l.size t h2 b2) way e f
            (rw keyed (shrunk_cuts m on.key i s came.top came.rest trust_s roomy_s top_root down_top place_top v is_top way whole
            (bare_slots l.size t h1 b1)))

        -- cut
        module _ (c : std.Result Tree Refusal) (h3 b3 : List ℕ)
            (ec : edited_of l.size h3 b3 c ≡ cuts (lent_of [] l) [] (steps_in way) (state_of l.size t h2 b2)) where
          same_cuts : cuts (lent_of [] l) [] (steps_in way) (state_of l.size t h2 b2) ≡ cuts m [] ps (index_keys ps v)
          same_cuts =
              cuts_slots m (lent_of [] l) [] (steps_in way) (state_of l.size t h2 b2) (slots_of_lem image l).0
              ∙ ap (cuts m [] ps) w.state

          pub on_uncut : (x : Refusal) → c ≡ Err x
              → edited_of l.size h3 b3 (Err x) ≡ removed_at (lent_of image l) i (record {
                state = state_of l.size t₀ h0 b0;
                steps = steps_in way;
              })
          unfolding edited_of
          on_uncut x y = cut_refused m i (record { state = s; steps = ps }) v is_done (number_of x)
              (ap (edited_of l.size h3 b3) (sym y) ∙ ec ∙ same_cuts)

          module _ (u : Tree) (y : c ≡ Ok u) where
            is_cut : ok (state_of l.size u h3 b3) ≡ cuts m [] ps (index_keys ps v)
            unfolding edited_of
            is_cut = ap (edited_of l.size h3 b3) (sym y) ∙ ec ∙ same_cuts

            pub on_cut : ReadyTree l.size l.slots h3 b3 c → Ready l.size l.slots u.used h3 b3
            on_cut k = subst (ReadyTree l.size l.slots h3 b3) y k

            pub on_trust : trusted (lent_of image l) (state_of l.size u h3 b3) ≡ true
            on_trust =
                shrunk_trust m on.key i s came.top came.rest trust_s roomy_s top_root down_top place_top v is_top (state_of l.size u h3 b3)
                (subst (λ (qs : List Step). cuts m [] qs (index_keys qs v) ≡ ok (state_of l.size u h3 b3)) came.steps (sym is_cut))

            keys_count : length (index_keys ps v).nodes ≡ t.used
            keys_count = ap (λ (x : State). length x.nodes) (sym w.state) ∙ used_nodes l.size t h2 b2

            pub on_more : t₀.used ≤ u.used
            on_more = omega (
              arith,
              (cuts_longer m ps (index_keys ps v)).at (state_of l.size u h3 b3)
                  (sym is_cut),
              keys_count,
              used_same,
              used_nodes l.size u h3 b3,
            )

            pub on_done : (level : ℕ) (z : Result State) → level ≡ (node_at (state_of l.size u h3 b3) u.root).level
                → z ≡ hand_down level (lent_of image l) (state_of l.size u h3 b3)
                → z ≡ removed_at (lent_of image l) i (record { state = state_of l.size t₀ h0 b0; steps = steps_in way })
            on_done level z e f =
                f ∙ ap (λ (n : ℕ). hand_down n m (state_of l.size u h3 b3)) (e
                ∙ ap (λ (n : ℕ). (node_at (state_of l.size u h3 b3) n).level) (sym (root_of_lem l.size u h3 b3)))
                ∙ cut_done m i (record { state = s; steps = ps }) v is_done (state_of l.size u h3 b3) is_cut

            -- what can be gone back to
            pub on_back : (h4 b4 : List ℕ) → Follows l.size l.slots t₀.used h0 b0 h3 b3 → Follows l.size l.slots u.used h3 b3 h4 b4
                → Follows l.size l.slots t₀.used h0 b0 h4 b4
            on_back h4 b4 f g = follows_on l.size l.slots t₀.used u.used h0 b0 h3 b3 h4 b4 f g on_more

          pub on_follows : Follows l.size l.slots t₀.used h0 b0 h1 b1 → Follows l.size l.slots t.used h2 b2 h3 b3
              → Follows l.size l.slots t₀.used h0 b0 h3 b3
          on_follows f g =
              follows_on l.size l.slots t₀.used t.used h0 b0 h2 b2 h3 b3
              (follows_on l.size l.slots t₀.used t.used h0 b0 h1 b1 h2 b2 f w.follows (omega (arith, used_same))) g (omega
              (arith, used_same))

pub ruleset remove_on_laws = (on_refused, on_uncut)
