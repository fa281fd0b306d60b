-- Laws of nodes dropped on a way, bottom up, as the code drops them. Assumes nothing.
use Rattle.std.specs.Int.{from_bool}
use Rattle.std.specs.Prelude.{◌≡◌, refl, List, ◌∷◌, Bool, true, false, ℕ, zero, suc, ◌+◌, ◌-◌, ◌≤◌, ◌<◌, length}
use Rattle.std.proofs.Math.Path.{sym}
use Rattle.std.proofs.Common.{ap, subst, ◌∙◌}
use native.Mathlib.Omega.{arith}
use Rattle.node.specs.Slot.{MemNode, head_at, remove_at}
use Rattle.tree.specs.Workspace.{state_of}
use Rattle.tree.specs.State.{State, node_at, put_node, marked_dead, changed}
use Rattle.tree.specs.Lookup.{Step}
use Rattle.tree.specs.Remove.{Dropped, drop_node, drop_emptied}
use Rattle.tree.specs.internal.Bank.{node_in, live, Ready, Put}
use Rattle.tree.specs.internal.Undo.{Follows}
use Rattle.tree.specs.internal.Way.{nth_step, steps_in, WayIn}
use Rattle.tree.specs.internal.Writers.{edited}
use Rattle.tree.specs.declared.writers.DirtyMark.TheVariants.{Set}
use Rattle.tree.specs.internal.Index.{Rewritten, steps_from}
use Rattle.tree.specs.internal.Removing.{dead_put, child_dropped, DropFits, DropRoom, Emptied}
use Rattle.tree.specs.laws.slots.Undo.{follows_same, follows_on}
use Rattle.tree.specs.laws.state.State.{at_put_other}
use Rattle.tree.specs.laws.slots.Tree.{node_in_lem}
use Rattle.tree.specs.laws.load.Fetch.{count_is}
use Rattle.tree.specs.laws.trust.Loads.{by_list}
use Rattle.tree.specs.laws.remove.Words.{put_rewritten}
use Rattle.tree.specs.laws.remove.Ways.{step_of, from_cons, from_start}
use Rattle.tree.specs.declared.editor.Tree.{Tree}
use Rattle.tree.specs.declared.editor.Position as code

-- ---- one node

module _ (size slots n i c : ℕ) (t : Tree) (h0 b0 h1 b1 : List ℕ) (hn : n < t.used) (fit : DropFits (state_of size t h0 b0) n i c)
    (w : Rewritten size slots t h0 b0 h1 b1 (dead_put (state_of size t h0 b0) c)) where
  -- slot n is as it was
  parent : node_at (state_of size t h1 b1) n ≡ node_at (state_of size t h0 b0) n
  parent = ap (λ (s : State). node_at s n) w.state ∙ at_put_other (state_of size t h0 b0) c (marked_dead (node_at (state_of size t h0 b0) c)) n
      fit.apart

  pub drop_index : i < (live (head_at h1 n)).count
  drop_index =
      let e : length (node_at (state_of size t h1 b1) n).entries
      ≡ length (node_at (state_of size t h0 b0) n).entries = ap (λ (m : MemNode). length m.entries) parent in
      omega (arith, count_is size t h1 b1 n hn (live (head_at h1 n)) refl, fit.child)

  pub drop_upto : i ≤ (live (head_at h1 n)).count
  drop_upto = omega (arith, drop_index)

  pub drop_done : (h2 b2 : List ℕ) → length h2 ≡ length h1 → length b2 ≡ length b1
      → Put size slots h1 b1 h2 b2 n (edited Set (node_in size h1 b1 n) (remove_at i (node_in size h1 b1 n).entries))
      → Follows size slots t.used h1 b1 h2 b2 → Rewritten size slots t h0 b0 h2 b2 (child_dropped (state_of size t h0 b0) n i c)
  drop_done h2 b2 eh eb p f =
      let k = put_rewritten size slots n t h1 b1 h2 b2 w.ready hn eh eb _ p f in
      let q : node_in size h1 b1 n ≡ node_at (state_of size t h0 b0) n = sym (node_in_lem size t h1 b1 n hn) ∙ parent in
      record {
        state = k.state ∙ ap (λ (s : State). put_node s n (changed (node_in size h1 b1 n) (remove_at i (node_in size h1 b1 n).entries))) w.state
            ∙ ap (λ (m : MemNode). put_node (dead_put (state_of size t h0 b0) c) n (changed m (remove_at i m.entries))) q;
        ready = k.ready;
        follows = follows_on size slots t.used t.used h0 b0 h1 b1 h2 b2 w.follows f (omega arith);
      }

-- ---- one node, if it is empty

none_of : (x : Step) (c : ℕ) (d : Dropped) (count : ℕ) → count ≡ length (node_at d.state c).entries → (count ≡ 0 → ⊥) → d ≡ drop_node x c d
unfolding drop_node
none_of x c d count e h =
    by_list (node_at d.state c).entries
    (λ q. absurd (h (e ∙ ap length q)))
    (λ y ys q. rw q)

one_of : (x : Step) (c : ℕ) (d : Dropped) (count : ℕ) → count ≡ length (node_at d.state c).entries → count ≡ 0
    → record { state = child_dropped d.state x.slot x.child c; nodes = suc d.nodes } ≡ drop_node x c d
unfolding drop_node marked_dead
one_of x c d count e z =
    by_list (node_at d.state c).entries
    (λ q. rw q)
    (λ y ys q. let k : length (node_at d.state c).entries ≡ suc (length ys) = ap length q in absurd (omega arith))

module _ (size slots n i c count : ℕ) (t : Tree) (h0 b0 : List ℕ) (r : Ready size slots t.used h0 b0)
    (ec : count ≡ length (node_at (state_of size t h0 b0) c).entries) where
  abbrev d0 : Dropped
  d0 = record { state = state_of size t h0 b0; nodes = 0 }

  pub none_dropped : (count ≡ 0 → ⊥) → Emptied size slots t h0 b0 h0 b0 (drop_node (record {
    slot = n;
    child = i;
  }) c (record { state = state_of size t h0 b0; nodes = 0 })) 0
  none_dropped z =
      let q = none_of (record { slot = n; child = i }) c d0 count ec z in
      record {
        rest = record { state = ap (λ (d : Dropped). d.state) q; ready = r; follows = follows_same size slots t.used h0 b0 };
        count = ap (λ (d : Dropped). d.nodes) q;
      }

  pub one_dropped : (h1 b1 : List ℕ) → count ≡ 0 → Rewritten size slots t h0 b0 h1 b1 (child_dropped (state_of size t h0 b0) n i c)
      → Emptied size slots t h0 b0 h1 b1 (drop_node (record { slot = n; child = i }) c (record { state = state_of size t h0 b0; nodes = 0 })) 1
  one_dropped h1 b1 z w =
      let q = one_of (record { slot = n; child = i }) c d0 count ec z in
      record {
        rest = record { state = w.state ∙ ap (λ (d : Dropped). d.state) q; ready = w.ready; follows = w.follows };
        count = ap (λ (d : Dropped). d.nodes) q;
      }

pub one_at_most : (b : Bool) → from_bool b ≤ 1
one_at_most false = omega arith
one_at_most true = omega arith

-- ---- a way

-- how many were dropped before does not matter
split_state : (x : Step) (c : ℕ) (d : Dropped) → (drop_node x c d).state ≡ (drop_node x c (record { state = d.state; nodes = 0 })).state
unfolding drop_node
split_state x c d = by_list (node_at d.state c).entries (λ q. rw q) (λ y ys q. rw q)

split_nodes : (x : Step) (c : ℕ) (d : Dropped) → (drop_node x c d).nodes ≡ d.nodes + (drop_node x c (record { state = d.state; nodes = 0 })).nodes
unfolding drop_node
split_nodes x c d = by_list (node_at d.state c).entries (λ q. rw q (omega arith)) (λ y ys q. rw q (omega arith))

-- one step has no node below it
drop_few : (way : List code.Position) (j m : ℕ) (s : State) → m ≤ 1 → drop_emptied (steps_from way j m) s ≡ record { state = s; nodes = 0 }
unfolding steps_from drop_emptied
drop_few way j zero s h = refl
drop_few way j (suc zero) s h = refl
drop_few way j (suc (suc m)) s h = absurd (omega arith)

drop_cons : (x y : Step) (l ys : List Step) (s : State) → l ≡ y ∷ ys → drop_emptied (x ∷ l) s ≡ drop_node x y.slot (drop_emptied l s)
unfolding drop_emptied
drop_cons x y l ys s e = rw e

module _ (size slots : ℕ) (t : Tree) (way : List code.Position) (h0 b0 : List ℕ) where
  abbrev from : ℕ → Dropped
  from j = drop_emptied (steps_from way j (length way - j)) (state_of size t h0 b0)

  pub emptied_none : Ready size slots t.used h0 b0
      → Emptied size slots t h0 b0 h0 b0 (drop_emptied (steps_from way (length way - 1) (length way - (length way - 1))) (state_of size t h0 b0)) 0
  emptied_none r =
      let q = drop_few way (length way - 1) (length way - (length way - 1)) (state_of size t h0 b0) (omega arith) in
      record {
        rest = record { state = sym (ap (λ (d : Dropped). d.state) q); ready = r; follows = follows_same size slots t.used h0 b0 };
        count = sym (ap (λ (d : Dropped). d.nodes) q);
      }

  module _ (j : ℕ) (h b : List ℕ) (dropped : ℕ)
      (e : Emptied size slots t h0 b0 h b (drop_emptied (steps_from way j (length way - j)) (state_of size t h0 b0)) dropped) where
    pub emptied_ready : Ready size slots t.used h b
    emptied_ready = e.rest.ready

    pub emptied_all : j ≤ 0 → Emptied size slots t h0 b0 h b (drop_emptied (steps_in way) (state_of size t h0 b0)) dropped
    emptied_all u =
        let z : j ≡ 0 = omega arith in
        let y : length way - 0 ≡ length way = omega arith in
        let q : steps_from way j (length way - j) ≡ steps_in way =
        ap (λ (x : ℕ). steps_from way x (length way - x)) z ∙ ap (λ (x : ℕ). steps_from way 0 x) y ∙ sym (from_start way (length way)) in
        subst (λ (l : List Step). Emptied size slots t h0 b0 h b (drop_emptied l (state_of size t h0 b0)) dropped) q e

    module _ (u : 0 < j) (v : j < length way) where
      drop_next : (h' b' : List ℕ) (one : ℕ)
          → Emptied size slots t h b h' b' (drop_node (record {
            slot = (nth_step way (j - 1)).slot;
            child = (nth_step way (j - 1)).index;
          }) (nth_step way j).slot (record { state = state_of size t h b; nodes = 0 })) one
          → Emptied size slots t h0 b0 h' b' (drop_emptied (steps_from way (j - 1) (length way - (j - 1))) (state_of size t h0 b0)) (dropped + one)
      drop_next h' b' one f =
          let z : suc (j - 1) ≡ j = omega arith in
          let k : j - 1 < length way = omega arith in
          let x : Step = step_of way (j - 1) in
          let c : ℕ = (nth_step way j).slot in
          let q : from (j - 1) ≡ drop_node x c (from j) =
          ap (λ (l : List Step). drop_emptied l (state_of size t h0 b0)) (from_cons way (j - 1) k
          ∙ ap (λ (y : ℕ). step_of way (j - 1) ∷ steps_from way y (length way - y)) z)
          ∙ drop_cons x (step_of way j) (steps_from way j (length way - j)) (steps_from way (suc j) (length way - suc j)) (state_of size t h0 b0)
          (from_cons way j v) in
          let a : drop_node x c (record { state = (from j).state; nodes = 0 }) ≡ drop_node x c (record { state = state_of size t h b; nodes = 0 }) =
          ap (λ (s : State). drop_node x c (record { state = s; nodes = 0 })) (sym e.rest.state) in
          record {
            rest = record {
              state = f.rest.state ∙ sym (ap (λ (d : Dropped). d.state) q ∙ split_state x c (from j) ∙ ap (λ (d : Dropped). d.state) a);
              ready = f.rest.ready;
              follows = follows_on size slots t.used t.used h0 b0 h b h' b' e.rest.follows f.rest.follows (omega arith);
            };
            count =
                let y : (from (j - 1)).nodes ≡ (from j).nodes + (drop_node x c (record { state = state_of size t h b; nodes = 0 })).nodes =
                ap (λ (d : Dropped). d.nodes) q ∙ split_nodes x c (from j) ∙ ap (λ (d : Dropped). (from j).nodes + d.nodes) a in
                omega (arith, e.count, f.count);
          }

      module _ (x y : code.Position) (ex : x ≡ nth_step way (j - 1)) (ey : y ≡ nth_step way j) where
        pub emptied_place : WayIn t.used way → DropRoom (state_of size t h0 b0) way
            → (x.slot < t.used) × (y.slot < t.used) × DropFits (state_of size t h b) x.slot x.index y.slot
        emptied_place w r = rw (ex, ey, e.rest.state) (w.slot (j - 1) (omega arith), w.slot j v, r.turn j u v)

        pub emptied_next : (h' b' : List ℕ) (one : ℕ)
            → Emptied size slots t h b h' b'
            (drop_node (record { slot = x.slot; child = x.index }) y.slot (record { state = state_of size t h b; nodes = 0 })) one
            → Emptied size slots t h0 b0 h' b' (drop_emptied (steps_from way (j - 1) (length way - (j - 1))) (state_of size t h0 b0)) (dropped + one)
        emptied_next h' b' one = rw (ex, ey) (drop_next h' b' one)

pub ruleset drop_emptied_laws = (emptied_none, emptied_all, emptied_place)
