-- What comes out of a flush fits: its lists are no longer than the slots, its ids are those that were counted. Assumes nothing.
use Rattle.std.specs.Prelude.{◌≡◌, refl, Bool, true, false, ◌&&◌, set, ltb}
use Rattle.std.proofs.Common.{sym, ap, get_or-set_same, get_or-set_other, eqb-true, ltb-true, ltb-false}
use mathlib.Core.List.{List, [], ◌∷◌, ◌++◌}
use Rattle.std.proofs.Math.Bool.{cond}
use Prim.Native.Nat.{ℕ, zero, suc, ◌+◌, ◌-◌, ◌≤◌, ◌^◌}
use Rattle.std.proofs.Math.Nat.{zero-add}
use native.Mathlib.Omega.{arith}
use Rattle.std.proofs.Math.ListN.{length, get_or, length-append}
use Rattle.std.proofs.Math.Seq.{set_out}
use Rattle.std.proofs.Math.Dec.{eqb}
use Rattle.std.proofs.lemmas.Bool.{eqb-false}
use Rattle.tree.specs.Format.{Entry, MemNode, only}
use Rattle.tree.specs.Lent.{Lent}
use Rattle.tree.specs.State.{State, no_node, node_at}
use Rattle.tree.specs.Trust.{trusted}
use Rattle.tree.specs.internal.Reach.{reach_kid, reach_kids, reach_sum, dead_count}
use Rattle.tree.specs.laws.base.Node.{by_test}
use Rattle.tree.specs.laws.state.State.{by_val}
use Rattle.tree.specs.laws.lookup.RangeSums.{reach_slots}
use Rattle.flush.specs.Space.{Space, Choice, choose, space_holds}
use Rattle.flush.specs.laws.SpaceLaws.{by_list}
use Rattle.flush.specs.laws.FlushLaws.{flush_enough}
use Rattle.flush.specs.Flush.{Flushing, rewritten, write_at, write_node, write_kids, write_from, dead_blocks, dead_ids, sum_kids, sum_from, dirty_reached, ids_wanted, flushed}
use Rattle.flush.specs.internal.Counts.{dirty_one, id_one}
use Rattle.flush.specs.internal.Walk.{Fitting}

-- ---- sums are those of the slots reached

kids_reach : (f g : ℕ → ℕ) → ((c : ℕ) → f c ≡ g c) → (es : List Entry) → sum_kids f es ≡ reach_kids g es
unfolding sum_kids reach_kids reach_kid
kids_reach f g h [] = refl
kids_reach f g h (e ∷ es) =
    by_val e.value
    (λ q. rw q (ap (λ (n : ℕ). 0 + n) (kids_reach f g h es)))
    (λ b q. rw q (ap (λ (n : ℕ). 0 + n) (kids_reach f g h es)))
    (λ r q. rw q (ap (λ (n : ℕ). 0 + n) (kids_reach f g h es)))
    (λ c q. rw (q, h c) (ap (λ (n : ℕ). g c + n) (kids_reach f g h es)))

sum_reach : (f : MemNode → ℕ) (d : ℕ) (s : State) (n : ℕ) → sum_from f d s n ≡ reach_sum f d s n
unfolding sum_from reach_sum
sum_reach f zero s n = refl
sum_reach f (suc d) s n = ap (λ (k : ℕ). f (node_at s n) + k)
    (kids_reach (sum_from f d s) (reach_sum f d s) (λ c. sum_reach f d s c) (node_at s n).entries)

-- ---- what is so of every slot

every_set : (P : ℕ → MemNode → Type 0) (ns : List MemNode) (n : ℕ) (x : MemNode) → P n x → ((m : ℕ) → P m (get_or ns m no_node)) → (m : ℕ)
    → P m (get_or (set ns n x) m no_node)
every_set P ns n x h k m =
    by_test (eqb m n)
    (λ t. let z : m ≡ n = eqb-true m n t in rw z (at_n))
    (λ t. rw (get_or-set_other ns n m x no_node (eqb-false m n t)) (k m))
  where
    at_n : P n (get_or (set ns n x) n no_node)
    at_n =
        by_test (ltb n (length ns))
        (λ t. rw (get_or-set_same ns n x no_node (ltb-true n (length ns) t)) h)
        (λ t. rw (set_out ns n x (ltb-false n (length ns) t)) (k n))

-- a node has at most one block; of the ids wanted, none is new
pub record Steady (s : State) (w : Flushing) : Type 0 where
  pub block : (m : ℕ) → length (get_or w.nodes m no_node).block ≤ 1
  pub fewer : (m : ℕ) → id_one s.virtual (get_or w.nodes m no_node) ≤ id_one s.virtual (node_at s m)

-- a part of the walk that wants g ids: each block allocated adds at most one to each list
pub record Tied (s : State) (g : ℕ) (w w' : Flushing) : Type 0 where
  pub steady : Steady s w'
  pub next : w'.next ≤ w.next + g
  pub freed : length w'.freed + w.allocated ≤ length w.freed + w'.allocated
  pub moved : length w'.moved + w.allocated ≤ length w.moved + w'.allocated

module _ (s : State) (xid : ℕ) where
  tied_same : (g : ℕ) (w : Flushing) → Steady s w → Tied s g w w
  tied_same g w h = record { steady = h; next = omega arith; freed = omega arith; moved = omega arith }

  tied_on : (g k : ℕ) (u v w : Flushing) → Tied s g u v → Tied s k v w → Tied s (g + k) u w
  tied_on g k u v w p q = record {
    steady = q.steady;
    next = omega (arith, p.next, q.next);
    freed = omega (arith, p.freed, q.freed);
    moved = omega (arith, p.moved, q.moved);
  }

  clean_id : (m : MemNode) (a : ℕ) (l : List ℕ) (k : ℕ) → id_one s.virtual (rewritten m a l) ≤ k
  unfolding id_one rewritten
  clean_id m a l k = omega arith

  moved_one : (b : Bool) (a c : ℕ) (l : List (ℕ × ℕ)) → length (l ++ cond b ((a, c) ∷ []) []) ≤ length l + 1
  moved_one true a c l = omega (arith, length-append l ((a, c) ∷ []))
  moved_one false a c l = omega (arith, length-append l [])

  one_block : (m : MemNode) (a : ℕ) (l : List ℕ) → length (rewritten m a l).block ≤ 1
  unfolding rewritten
  one_block m a l = omega arith

  new_id : (n : ℕ) (m : MemNode) → m.dirty ≡ true → id_one s.virtual m ≤ id_one s.virtual (node_at s n)
      → cond (s.virtual && eqb (length m.id) 0) 1 0 ≤ id_one s.virtual (node_at s n)
  unfolding id_one
  new_id n m e k = rw e at k

  tied_at : (n : ℕ) (x : Choice) (w : Flushing) → Steady s w → (get_or w.nodes n no_node).dirty ≡ true
      → Tied s (id_one s.virtual (node_at s n)) w (write_at s xid n x w)
  unfolding write_at
  tied_at n x w h d =
      let m : MemNode = get_or w.nodes n no_node in
      let i : cond (s.virtual && eqb (length m.id) 0) 1 0 ≤ id_one s.virtual (node_at s n) = new_id n m d (h.fewer n) in
      record {
        steady = record {
          block = every_set (λ k y. length y.block ≤ 1) w.nodes n _ (one_block m _ _) h.block;
          fewer = every_set (λ k y. id_one s.virtual y ≤ id_one s.virtual (node_at s k)) w.nodes n _ (clean_id m _ _ _) h.fewer;
        };
        next = omega arith;
        freed = omega (arith, length-append w.freed m.block, h.block n);
        moved = omega (
          arith,
          moved_one s.virtual (cond s.virtual (only (cond (s.virtual && eqb (length m.id) 0) (w.next ∷ [])
              m.id)) x.block) x.block w.moved,
        );
      }

  tied_node : (n : ℕ) (w : Flushing) → Steady s w → Tied s (id_one s.virtual (node_at s n)) w (write_node s xid n w)
  unfolding write_node
  tied_node n w h =
      by_test (get_or w.nodes n no_node).dirty
      (λ t. by_list (choose s.info.node_size w.space)
      (λ q. rw (t, q) (tied_same (id_one s.virtual (node_at s n)) w h))
      (λ x xs q. rw (t, q) (tied_at n x w h t)))
      (λ t. rw t (tied_same (id_one s.virtual (node_at s n)) w h))

  tied_kids : (f : ℕ → Flushing → Flushing) (g : ℕ → ℕ) → ((c : ℕ) (w : Flushing) → Steady s w → Tied s (g c) w (f c w))
      → (es : List Entry) (w : Flushing)
      → Steady s w → Tied s (sum_kids g es) w (write_kids f es w)
  unfolding write_kids sum_kids
  tied_kids f g h [] w k = tied_same 0 w k
  tied_kids f g h (e ∷ es) w k =
      by_val e.value
      (λ q. rw (q, zero-add (sum_kids g es)) (tied_kids f g h es w k))
      (λ b q. rw (q, zero-add (sum_kids g es)) (tied_kids f g h es w k))
      (λ r q. rw (q, zero-add (sum_kids g es)) (tied_kids f g h es w k))
      (λ c q. let i = h c w k in rw q (tied_on (g c) (sum_kids g es) w (f c w) (write_kids f es (f c w)) i (tied_kids f g h es (f c w) i.steady)))

  pub tied_from : (d n : ℕ) (w : Flushing) → Steady s w → Tied s (sum_from (id_one s.virtual) d s n) w (write_from d s xid n w)
  unfolding sum_from write_from
  tied_from zero n w h = tied_node n w h
  tied_from (suc d) n w h =
      let g : ℕ = sum_kids (sum_from (id_one s.virtual) d s) (node_at s n).entries in
      let v : Flushing = write_kids (write_from d s xid) (node_at s n).entries w in
      let i : Tied s g w v = tied_kids (write_from d s xid) (sum_from (id_one s.virtual) d s) (tied_from d) (node_at s n).entries w h in
      let j : Tied s (id_one s.virtual (node_at s n)) v (write_node s xid n v) = tied_node n v i.steady in
      let k = tied_on g (id_one s.virtual (node_at s n)) w v (write_node s xid n v) i j in
      record { steady = k.steady; next = omega (arith, k.next); freed = k.freed; moved = k.moved }

-- ---- the call

dead_most : (ns : List MemNode) → ((m : ℕ) → length (get_or ns m no_node).block ≤ 1) → length (dead_blocks ns) ≤ dead_count ns
unfolding dead_blocks dead_count
dead_most [] h = omega arith
dead_most (m ∷ ms) h =
    let i = dead_most ms (λ k. h (suc k)) in
    let b : length m.block ≤ 1 = h 0 in
    by_test m.dead
    (λ t. rw t (omega (arith, length-append m.block (dead_blocks ms))))
    (λ t. rw t (omega (arith, i)))

dirty_is : (s : State) → dirty_reached s ≡ sum_from dirty_one (node_at s s.root).level s s.root
unfolding dirty_reached dirty_one
dirty_is s = refl

ids_is : (s : State) → ids_wanted s ≡ sum_from (id_one s.virtual) (node_at s s.root).level s s.root
unfolding ids_wanted id_one
ids_is s = refl

pub dirty_reached_lem : (s : State) → sum_from dirty_one (node_at s s.root).level s s.root ≡ dirty_reached s
dirty_reached_lem s = sym (dirty_is s)

pub ids_wanted_lem : (s : State) → sum_from (id_one s.virtual) (node_at s s.root).level s s.root ≡ ids_wanted s
ids_wanted_lem s = sym (ids_is s)

one_dirty : (m : MemNode) → dirty_one m ≤ 1
unfolding dirty_one
one_dirty m = by_test m.dirty (λ t. rw t (omega arith)) (λ t. rw t (omega arith))

pub flush_fits : (l : Lent) (p : Space) (s : State) (xid next blocks : ℕ) → trusted l s ≡ true → l.slots ≤ 4096
    → space_holds s.info.node_size blocks p ≡ true → ((m : ℕ) → length (node_at s m).block ≤ 1) → next + ids_wanted s ≤ 2 ^ 64 - 1
    → Fitting l.slots l.slots l.slots (flushed l p s xid next).after
unfolding flushed node_at
flush_fits l p s xid next blocks h few sp one ids =
    let w : Flushing = record {
      image = l.image;
      space = p;
      nodes = s.nodes;
      next = next;
      freed = dead_blocks s.nodes;
      removed = dead_ids s.virtual s.nodes;
      moved = [];
      allocated = 0;
    } in
    let y : Steady s w = record { block = one; fewer = λ m. omega arith } in
    let k = tied_from s xid (node_at s s.root).level s.root w y in
    let b = flush_enough l p s xid next blocks sp in
    let a : (write_from (node_at s s.root).level s xid s.root w).allocated ≤ dirty_reached s = b.bound in
    let r : sum_from dirty_one (node_at s s.root).level s s.root ≡ reach_sum dirty_one (node_at s s.root).level s s.root =
    sum_reach dirty_one (node_at s s.root).level s s.root in
    let q = reach_slots l s dirty_one h one_dirty in
    let g = dead_most s.nodes one in
    let e = dirty_is s in
    let i = ids_is s in
    record {
      next = omega (arith, k.next);
      freed = omega (arith, k.freed);
      ids = omega (arith, k.moved);
      places = omega (arith, k.moved);
      allocated = omega arith;
    }
