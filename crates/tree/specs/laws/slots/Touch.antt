-- Laws of dirty marks on a way. Assumes nothing.
use Rattle.std.specs.Prelude.{◌≡◌, refl, List, [], ◌∷◌, ◌++◌, true, false, not, length, set}
use Rattle.std.proofs.Common.{sym, subst, ◌∙◌, add-one}
use Rattle.std.proofs.Math.Path.{ap}
use Prim.Native.Nat.{ℕ, suc, ◌+◌, ◌-◌, ◌≤◌, ◌<◌}
use native.Mathlib.Omega.{arith}
use borrow.Author.Tests.{not-true, not-false}
use Rattle.tree.specs.Workspace.{nodes_of, state_of}
use Rattle.tree.specs.State.{State, node_at, put_node, with_nodes, marked_dirty}
use Rattle.tree.specs.Lookup as lookup
use Rattle.tree.specs.Edit.{mark_way, mark_dirty, touch}
use Rattle.tree.specs.internal.Bank.{node_in, Ready, Put}
use Rattle.tree.specs.internal.Undo.{Follows}
use Rattle.tree.specs.internal.Way.{nth_step, steps_of, steps_in, WayIn, Dirtied, Touched}
use Rattle.tree.specs.laws.slots.Bank.{put_set, put_ready}
use Rattle.tree.specs.laws.slots.Undo.{follows_same, follows_on}
use Rattle.tree.specs.laws.slots.Tree.{node_in_lem}
use Rattle.tree.specs.declared.editor.Tree.{Tree}
use Rattle.tree.specs.declared.editor.Position as code

-- ---- one slot

pub dirty_state : (size slots n : ℕ) (t : Tree) (h b h' b' : List ℕ) → t.used ≤ slots → n < t.used
    → Put size slots h b h' b' n (marked_dirty (node_in size h b n))
    → state_of size t h' b' ≡ mark_dirty (state_of size t h b) n
unfolding state_of mark_dirty put_node with_nodes
dirty_state size slots n t h b h' b' w u p =
    let x : nodes_of size h' b' t.used ≡ set (nodes_of size h b t.used) n (marked_dirty (node_in size h b n)) = put_set size slots h b h' b' n
    (marked_dirty (node_in size h b n)) p t.used w u in
    let y : node_at (state_of size t h b) n ≡ node_in size h b n = node_in_lem size t h b n u in
    rw (x, y)

-- ---- a way

way_snoc : (xs : List lookup.Step) (x : lookup.Step) (s : State) → mark_way (xs ++ x ∷ []) s ≡ mark_dirty (mark_way xs s) x.slot
unfolding mark_way mark_dirty
way_snoc [] x s = refl
way_snoc (y ∷ ys) x s = way_snoc ys x (put_node s y.slot (marked_dirty (node_at s y.slot)))

leaf_snoc : (xs : List lookup.Step) (x : lookup.Step) → lookup.leaf_of (xs ++ x ∷ []) ≡ x.slot
unfolding lookup.leaf_of
leaf_snoc [] x = refl
leaf_snoc (y ∷ []) x = refl
leaf_snoc (y ∷ z ∷ ys) x = leaf_snoc (z ∷ ys) x

module _ (size slots : ℕ) (t : Tree) (way : List code.Position) (h0 b0 : List ℕ) where
  pub dirtied_none : Ready size slots t.used h0 b0 → Dirtied size slots t way 0 h0 b0 h0 b0
  unfolding steps_of mark_way
  dirtied_none r = record { state = refl; ready = r; follows = follows_same size slots t.used h0 b0 }

  module _ (w : WayIn t.used way) (j : ℕ) (h b : List ℕ) (d : Dirtied size slots t way j h0 b0 h b) where
    module _ (u : j < length way) where
      pub way_slot : (nth_step way j).slot < t.used
      way_slot = w.slot j u

      pub dirtied_next : (h' b' : List ℕ) → length h' ≡ length h → length b' ≡ length b
          → Put size slots h b h' b' (nth_step way j).slot (marked_dirty (node_in size h b (nth_step way j).slot))
          → Follows size slots t.used h b h' b' → Dirtied size slots t way (j + 1) h0 b0 h' b'
      unfolding steps_of
      dirtied_next h' b' eh eb p f =
          let n : ℕ = (nth_step way j).slot in
          record {
            state = dirty_state size slots n t h b h' b' d.ready.within (w.slot j u) p
                ∙ rw (d.state, add-one) (sym (way_snoc (steps_of way j) (record { slot = n; child = (nth_step way j).index })
                (state_of size t h0 b0)));
            ready = put_ready size slots h b h' b' n (marked_dirty (node_in size h b n)) p t.used d.ready eh eb;
            follows = follows_on size slots t.used t.used h0 b0 h b h' b' d.follows f (omega arith);
          }

    pub dirtied_all : j ≤ length way → length way ≤ j → Dirtied size slots t way (length way) h0 b0 h b
    dirtied_all u v = let z : j ≡ length way = omega arith in subst (λ (k : ℕ). Dirtied size slots t way k h0 b0 h b) z d

-- ---- touch

module _ (size slots : ℕ) (t : Tree) (way : List code.Position) (h0 b0 : List ℕ) where
  physical : not t.by_id ≡ true → (state_of size t h0 b0).virtual ≡ false
  unfolding state_of
  physical q = not-true t.by_id q

  touch_physical : not t.by_id ≡ true → touch (steps_in way) (state_of size t h0 b0) ≡ mark_way
      (steps_in way) (state_of size t h0 b0)
  unfolding touch
  touch_physical q = rw (physical q)

  pub touched_way : (h b : List ℕ) → not t.by_id ≡ true → Dirtied size slots t way (length way) h0 b0 h b → Touched size slots t way h0 b0 h b
  touched_way h b q d = record { state = d.state ∙ sym (touch_physical q); ready = d.ready; follows = d.follows }

  module _ (q : not t.by_id ≡ false) (r : Ready size slots t.used h0 b0) (u : t.root < t.used) (w : WayIn t.used way)
      (m : 1 ≤ length way)
      (h1 b1 : List ℕ) (e1 : length h1 ≡ length h0) (f1 : length b1 ≡ length b0)
      (p : Put size slots h0 b0 h1 b1 t.root (marked_dirty (node_in size h0 b0 t.root))) where
    pub touched_ready : Ready size slots t.used h1 b1
    touched_ready = put_ready size slots h0 b0 h1 b1 t.root (marked_dirty (node_in size h0 b0 t.root)) p t.used r e1 f1

    pub leaf_room : length way - 1 < length way
    leaf_room = omega arith

    pub leaf_used : (nth_step way (length way - 1)).slot < t.used
    leaf_used = w.slot (length way - 1) (omega arith)

    leaf_is : lookup.leaf_of (steps_in way) ≡ (nth_step way (length way - 1)).slot
    unfolding steps_of
    leaf_is =
        let z : length way ≡ suc (length way - 1) = omega arith in
        ap (λ (k : ℕ). lookup.leaf_of (steps_of way k)) z ∙ leaf_snoc (steps_of way (length way - 1))
        (record { slot = (nth_step way (length way - 1)).slot; child = (nth_step way (length way - 1)).index })

    touch_by_id : touch (steps_in way) (state_of size t h0 b0) ≡ mark_dirty (mark_dirty (state_of size t h0 b0) t.root)
        (nth_step way (length way - 1)).slot
    unfolding touch state_of
    touch_by_id = rw (not-false t.by_id q, leaf_is)

    pub touched_both : (h2 b2 : List ℕ) → length h2 ≡ length h1 → length b2 ≡ length b1
        → Put size slots h1 b1 h2 b2 (nth_step way (length way - 1)).slot (marked_dirty (node_in size h1 b1 (nth_step way (length way - 1)).slot))
        → Follows size slots t.used h0 b0 h1 b1 → Follows size slots t.used h1 b1 h2 b2 → Touched size slots t way h0 b0 h2 b2
    touched_both h2 b2 e2 f2 p2 f g =
        record {
          state = both;
          ready = put_ready size slots h1 b1 h2 b2 (nth_step way (length way - 1)).slot
              (marked_dirty (node_in size h1 b1 (nth_step way (length way - 1)).slot)) p2
              t.used touched_ready e2 f2;
          follows = follows_on size slots t.used t.used h0 b0 h1 b1 h2 b2 f g (omega arith);
        }
      where
        second : state_of size t h2 b2 ≡ mark_dirty (state_of size t h1 b1) (nth_step way (length way - 1)).slot
        second = dirty_state size slots (nth_step way (length way - 1)).slot t h1 b1 h2 b2 r.within leaf_used p2

        first : state_of size t h1 b1 ≡ mark_dirty (state_of size t h0 b0) t.root
        first = dirty_state size slots t.root t h0 b0 h1 b1 r.within u p

        both : state_of size t h2 b2 ≡ touch (steps_in way) (state_of size t h0 b0)
        both = second ∙ ap (λ (s : State). mark_dirty s (nth_step way (length way - 1)).slot) first ∙ sym (touch_by_id)

pub ruleset mark_way_laws = (dirtied_none, way_slot, dirtied_next, dirtied_all)

pub ruleset touch_laws = (touched_way, touched_ready, leaf_room, leaf_used, touched_both)
