-- Laws of the walk: what it counts only grows, it looks at entries alone, and it leaves the removed ids alone. Assumes nothing.
use Rattle.std.specs.Prelude.{◌≡◌, refl, length, get_or}
use Rattle.std.proofs.Math.Path.{ap}
use Rattle.std.proofs.Common.{◌∙◌, arith, length-append}
use mathlib.Core.List.{List, [], ◌∷◌, ◌++◌}
use Prim.Native.Nat.{ℕ, zero, suc, ◌≤◌}
use Rattle.tree.specs.Format.{Entry}
use Rattle.tree.specs.State.{State, no_node, node_at}
use Rattle.tree.specs.Workspace.{state_of}
use Rattle.tree.specs.laws.base.Node.{by_test}
use Rattle.tree.specs.laws.state.State.{by_val}
use Rattle.tree.specs.declared.editor.Tree.{Tree}
use Rattle.flush.specs.Space.{Choice, choose}
use Rattle.flush.specs.laws.SpaceLaws.{by_list}
use Rattle.flush.specs.Flush.{Flushing, build_of, write_at, write_node, write_kids, write_from}
use Rattle.flush.specs.internal.Walk.{Alike, Fitting}

-- ---- what only grows

pub record Grows (w w' : Flushing) : Type 0 where
  pub next : w.next ≤ w'.next
  pub freed : length w.freed ≤ length w'.freed
  pub moved : length w.moved ≤ length w'.moved
  pub allocated : w.allocated ≤ w'.allocated

grows_refl : (w : Flushing) → Grows w w
grows_refl w = record { next = omega arith; freed = omega arith; moved = omega arith; allocated = omega arith }

pub grows_on : (u v w : Flushing) → Grows u v → Grows v w → Grows u w
grows_on u v w p q =
    record {
      next = omega (arith, p.next, q.next);
      freed = omega (arith, p.freed, q.freed);
      moved = omega (arith, p.moved, q.moved);
      allocated = omega (arith, p.allocated, q.allocated);
    }

grows_at : (s : State) (xid n : ℕ) (x : Choice) (w : Flushing) → Grows w (write_at s xid n x w)
unfolding write_at
grows_at s xid n x w =
    record {
      next = omega arith;
      freed = omega (arith, length-append w.freed (get_or w.nodes n no_node).block);
      moved = grown w.moved _;
      allocated = omega arith;
    }
  where
    grown : (a b : List (ℕ × ℕ)) → length a ≤ length (a ++ b)
    grown a b = omega (arith, length-append a b)

pub grows_node : (s : State) (xid n : ℕ) (w : Flushing) → Grows w (write_node s xid n w)
unfolding write_node
grows_node s xid n w =
    by_test (get_or w.nodes n no_node).dirty
    (λ t. by_list (choose s.info.node_size w.space) (λ q. rw (t, q) (grows_refl w)) (λ x xs q. rw (t, q) (grows_at s xid n x w)))
    (λ t. rw t (grows_refl w))

pub grows_kids : (f : ℕ → Flushing → Flushing) → ((c : ℕ) (w : Flushing) → Grows w (f c w)) → (es : List Entry) (w : Flushing)
    → Grows w (write_kids f es w)
unfolding write_kids
grows_kids f h [] w = grows_refl w
grows_kids f h (e ∷ es) w =
    by_val e.value
    (λ q. rw q (grows_kids f h es w))
    (λ b q. rw q (grows_kids f h es w))
    (λ r q. rw q (grows_kids f h es w))
    (λ c q. rw q (grows_on w (f c w) (write_kids f es (f c w)) (h c w) (grows_kids f h es (f c w))))

pub grows_from : (d : ℕ) (s : State) (xid n : ℕ) (w : Flushing) → Grows w (write_from d s xid n w)
unfolding write_from
grows_from zero s xid n w = grows_node s xid n w
grows_from (suc d) s xid n w =
    let v : Flushing = write_kids (write_from d s xid) (node_at s n).entries w in
    grows_on w v (write_node s xid n v) (grows_kids (write_from d s xid) (grows_from d s xid) (node_at s n).entries w) (grows_node s xid n v)

pub fitting_less : (freed ids places : ℕ) (w w' : Flushing) → Grows w w' → Fitting freed ids places w' → Fitting freed ids places w
fitting_less freed ids places w w' g f =
    record {
      next = omega (arith, g.next, f.next);
      freed = omega (arith, g.freed, f.freed);
      ids = omega (arith, g.moved, f.ids);
      places = omega (arith, g.moved, f.places);
      allocated = omega (arith, g.allocated, f.allocated);
    }

-- ---- a slot outside those in use

pub write_out : (d : ℕ) (s : State) (xid n : ℕ) (w : Flushing) → node_at s n ≡ no_node → get_or w.nodes n no_node ≡ no_node
    → write_from d s xid n w ≡ w
unfolding write_from write_node write_kids no_node
write_out zero s xid n w e f = rw f
write_out (suc d) s xid n w e f = rw (e, f)

-- ---- only the entries of a state are looked at

kids_same : (f g : ℕ → Flushing → Flushing) → ((c : ℕ) (w : Flushing) → f c w ≡ g c w) → (es : List Entry) (w : Flushing)
    → write_kids f es w ≡ write_kids g es w
unfolding write_kids
kids_same f g h [] w = refl
kids_same f g h (e ∷ es) w =
    by_val e.value
    (λ q. rw q (kids_same f g h es w))
    (λ b q. rw q (kids_same f g h es w))
    (λ r q. rw q (kids_same f g h es w))
    (λ c q. rw (q, h c w) (kids_same f g h es (g c w)))

module _ (size : ℕ) (t : Tree) (h h' b : List ℕ) where
  abbrev s : State
  s = state_of size t h b

  abbrev s' : State
  s' = state_of size t h' b

  pub node_alike : (xid n : ℕ) (w : Flushing) → write_node (state_of size t h' b) xid n w ≡ write_node (state_of size t h b) xid n w
  unfolding write_node write_at build_of state_of
  node_alike xid n w =
      by_test (get_or w.nodes n no_node).dirty
      (λ q. by_list (choose t.info.node_size w.space) (λ p. rw (q, p)) (λ x xs p. rw (q, p)))
      (λ q. rw q)

  pub write_alike : Alike (state_of size t h b) (state_of size t h' b) → (d xid n : ℕ) (w : Flushing)
      → write_from d (state_of size t h' b) xid n w ≡ write_from d (state_of size t h b) xid n w
  unfolding write_from
  write_alike a zero xid n w = node_alike xid n w
  write_alike a (suc d) xid n w =
      node_alike xid n (write_kids (write_from d s' xid) (node_at s' n).entries w)
      ∙ ap (write_node s xid n) (kids_same (write_from d s' xid) (write_from d s xid) (write_alike a d xid) (node_at s' n).entries w
      ∙ ap (λ (es : List Entry). write_kids (write_from d s xid) es w) (a.entries n))

-- ---- the removed ids

unfoldable pub with_removed : List ℕ → Flushing → Flushing
with_removed l w =
    record {
      image = w.image;
      space = w.space;
      nodes = w.nodes;
      next = w.next;
      freed = w.freed;
      removed = l;
      moved = w.moved;
      allocated = w.allocated;
    }

node_removed : (l : List ℕ) (s : State) (xid n : ℕ) (w : Flushing) → write_node s xid n (with_removed l w) ≡ with_removed l (write_node s xid n w)
unfolding write_node write_at with_removed
node_removed l s xid n w =
    by_test (get_or w.nodes n no_node).dirty
    (λ t. by_list (choose s.info.node_size w.space) (λ q. rw (t, q)) (λ x xs q. rw (t, q)))
    (λ t. rw t)

kids_removed : (l : List ℕ) (f : ℕ → Flushing → Flushing) → ((c : ℕ) (w : Flushing) → f c (with_removed l w) ≡ with_removed l (f c w))
    → (es : List Entry)
    (w : Flushing) → write_kids f es (with_removed l w) ≡ with_removed l (write_kids f es w)
unfolding write_kids
kids_removed l f h [] w = refl
kids_removed l f h (e ∷ es) w =
    by_val e.value
    (λ q. rw q (kids_removed l f h es w))
    (λ b q. rw q (kids_removed l f h es w))
    (λ r q. rw q (kids_removed l f h es w))
    (λ c q. rw (q, h c w) (kids_removed l f h es (f c w)))

pub write_removed : (l : List ℕ) (d : ℕ) (s : State) (xid n : ℕ) (w : Flushing)
    → write_from d s xid n (with_removed l w) ≡ with_removed l (write_from d s xid n w)
unfolding write_from
write_removed l zero s xid n w = node_removed l s xid n w
write_removed l (suc d) s xid n w =
    ap (write_node s xid n) (kids_removed l (write_from d s xid) (write_removed l d s xid) (node_at s n).entries w)
    ∙ node_removed l s xid n (write_kids (write_from d s xid) (node_at s n).entries w)
