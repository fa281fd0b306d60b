-- Laws of a remove that changes an entry of its leaf and nothing else: what it looks at makes it the remove. Assumes nothing.
use Rattle.std.specs.Prelude.{◌≡◌, Bool, false, cond, ◌&&◌, get_or, set, take, drop, leb}
use Rattle.std.proofs.Math.Path.{refl, sym, ap, subst}
use Rattle.std.proofs.Common.{◌∙◌}
use mathlib.Core.List.{List, [], ◌∷◌, ◌++◌}
use Rattle.std.proofs.Math.Bool.{true}
use Prim.Native.Nat.{ℕ, zero, suc, ◌+◌, ◌-◌, ◌≤◌, ◌<◌}
use native.Mathlib.Omega.{arith}
use Rattle.std.proofs.Math.ListN.{length}
use Rattle.std.proofs.Math.Dec.{ltb, eqb}
use borrow.Author.Tests.{eqb-true, eqb-false, lt-ltb, le-leb}
use Rattle.node.specs.laws.base.Tests.{by_test, never}
use Rattle.node.specs.Result.{Result, ok, ◌>>=◌, ◌>>◌, check}
use Rattle.node.specs.Order.{same_key}
use Rattle.node.specs.Refusals as refusal
use Rattle.node.specs.Entry.{Entry, mem}
use Rattle.node.specs.Find.{key_at, way_index, place_of, is_there}
use Rattle.node.specs.Fit.{keys_length, values_length, room_of, fits}
use Rattle.node.specs.Slot.{MemNode, remove_at}
use Rattle.node.specs.declared.info.BTreeInfo.{BTreeInfo}
use Rattle.node.specs.laws.fit.Fit.{sums_less}
use Rattle.tree.specs.Lent.{Lent}
use Rattle.tree.specs.State.{State, no_node, node_at, put_node, with_nodes, with_info, with_counts, with_entries, changed, marked_dirty}
use Rattle.tree.specs.Load as load
use Rattle.tree.specs.Lookup.{Step, way_from, way, leaf_of, above}
use Rattle.tree.specs.Edit.{mark_way, mark_dirty, touch, set_index_key, index_keys, cut_node, cuts}
use Rattle.tree.specs.Remove.{Dropped, drop_node, drop_emptied, leveled_root, has_only_child, hand_down, take_from_leaf, shrunk_on, remove_on, removed}
use Rattle.tree.specs.internal.Cutting.{stays_whole}
use Rattle.tree.specs.internal.Index.{key_differs}
use Rattle.tree.specs.internal.Still.{Settled, StillTo, StaysAbove}
use Rattle.tree.specs.laws.state.State.{at_put_same, at_put_other, val_used}
use Rattle.tree.specs.laws.trust.Named.{live_used}
use Rattle.tree.specs.laws.cut.IndexKey.{index_same}
use Rattle.tree.specs.laws.trust.OneStep.{fits_like}
use Rattle.tree.specs.laws.trust.Stands.{Below, Stands, all}
use Rattle.tree.specs.laws.trust.Edit.{held_below_lem}
use Rattle.tree.specs.laws.trust.Loads.{by_list}
use Rattle.tree.specs.laws.load.LoadedWay.{loaded_down}

-- ---- fewer entries fit where more do

without_is : (i : ℕ) (es : List Entry) → remove_at i es ≡ take i es ++ drop (suc i) es
unfolding remove_at
without_is i es = let e : i + 1 ≡ suc i = omega arith in ap (λ (j : ℕ). take i es ++ drop j es) e

keys_without : (t : BTreeInfo) (i : ℕ) (es : List Entry) → keys_length t (take i es ++ drop (suc i) es) ≤ keys_length t es
unfolding keys_length
keys_without t zero [] = omega arith
keys_without t (suc i) [] = omega arith
keys_without t zero (e ∷ es) = omega arith
keys_without t (suc i) (e ∷ es) = let k = keys_without t i es in omega arith

values_without : (t : BTreeInfo) (i : ℕ) (es : List Entry) → values_length t (take i es ++ drop (suc i) es) ≤ values_length t es
unfolding values_length
values_without t zero [] = omega arith
values_without t (suc i) [] = omega arith
values_without t zero (e ∷ es) = omega arith
values_without t (suc i) (e ∷ es) = let k = values_without t i es in omega arith

length_without : (i : ℕ) (es : List Entry) → length (take i es ++ drop (suc i) es) ≤ length es
length_without zero [] = omega arith
length_without (suc i) [] = omega arith
length_without zero (e ∷ es) = omega arith
length_without (suc i) (e ∷ es) = let k = length_without i es in omega arith

fits_remove : (t : BTreeInfo) (root : Bool) (level i : ℕ) (es : List Entry) → fits t root level es ≡ true → fits t root level (remove_at i es) ≡ true
unfolding fits room_of
fits_remove t root level i es f =
    let fs : List Entry = take i es ++ drop (suc i) es in
    rw (without_is i es)
    (sums_less t root level (length fs) (length es) (keys_length t fs + values_length t fs) (keys_length t es + values_length t es)
    (length_without i es)
    (omega (arith, keys_without t i es, values_without t i es)) f)

-- ---- a later entry taken out leaves the first

first_kept : (i : ℕ) (es : List Entry) → 0 < i → key_at (remove_at i es) 0 ≡ key_at es 0
unfolding key_at
first_kept zero es h = absurd (omega arith)
first_kept (suc i) [] h = rw (without_is (suc i) [])
first_kept (suc i) (e ∷ es) h = rw (without_is (suc i) (e ∷ es))

some_kept : (i : ℕ) (es : List Entry) → 0 < i → 0 < length es → 0 < length (remove_at i es)
some_kept zero es h k = absurd (omega arith)
some_kept (suc i) [] h k = absurd (omega arith)
some_kept (suc i) (e ∷ es) h k = rw (without_is (suc i) (e ∷ es)) (omega arith)

-- ---- one slot with fewer entries

-- tree t is tree s with other entries in slot m
record Lacks (s t : State) (m : ℕ) (es : List Entry) : Type 0 where
  root : t.root ≡ s.root
  other : (n : ℕ) → (n ≡ m → ⊥) → node_at t n ≡ node_at s n
  here : node_at t m ≡ with_entries (node_at s m) es
  fitting : (b : Bool) (level : ℕ) (es : List Entry) → fits t.info b level es ≡ fits s.info b level es

-- a step above leaf m, and the one that it goes on by
record Turn (s : State) (m : ℕ) (x y : Step) : Type 0 where
  apart : x.slot ≡ m → ⊥
  settled : Settled s x.slot
  same : same_key (key_at (node_at s x.slot).entries x.child) (key_at (node_at s y.slot).entries 0) ≡ true
  filled : 0 < length (node_at s x.slot).entries

-- a way whose last slot is m
abbrev Quiet : State → ℕ → List Step → Type 0
Quiet s m [] = Unit {0}
Quiet s m (x ∷ []) = x.slot ≡ m
Quiet s m (x ∷ y ∷ xs) = Turn s m x y × Quiet s m (y ∷ xs)

-- ---- dirty marks

set_self : (xs : List MemNode) (n : ℕ) (d : MemNode) → set xs n (get_or xs n d) ≡ xs
set_self [] n d = refl
set_self (x ∷ xs) zero d = refl
set_self (x ∷ xs) (suc n) d = ap (λ (z : List MemNode). x ∷ z) (set_self xs n d)

marked_self : (m : MemNode) → m.dirty ≡ true → marked_dirty m ≡ m
unfolding marked_dirty changed
marked_self m e = rw (← e)

mark_self : (s : State) (n : ℕ) → (node_at s n).dirty ≡ true → mark_dirty s n ≡ s
unfolding mark_dirty put_node with_nodes node_at
mark_self s n e =
    ap (λ (z : MemNode). with_nodes s (set s.nodes n z)) (marked_self (node_at s n) e) ∙ ap (with_nodes s) (set_self s.nodes n no_node)

way_self : (s : State) (m : ℕ) (ps : List Step) → s.virtual ≡ false → (node_at s m).dirty ≡ true → Quiet s m ps → mark_way ps s ≡ s
unfolding mark_way
way_self s m [] v d q = refl
way_self s m (x ∷ []) v d q = (unfold mark_dirty in mark_self s x.slot (ap (λ (n : ℕ). (node_at s n).dirty) q ∙ d))
way_self s m (x ∷ y ∷ xs) v d q =
    let e : put_node s x.slot (marked_dirty (node_at s x.slot)) ≡ s = (unfold mark_dirty in mark_self s x.slot (q.0.settled.dirty v)) in
    ap (mark_way (y ∷ xs)) e ∙ way_self s m (y ∷ xs) v d q.1

touch_self : (s : State) (m : ℕ) (ps : List Step) → leaf_of ps ≡ m → (node_at s s.root).dirty ≡ true → (node_at s m).dirty ≡ true → Quiet s m ps
    → touch ps s ≡ s
unfolding touch
touch_self s m ps l r d q =
    let two : State = mark_dirty (mark_dirty s s.root) (leaf_of ps) in
    by_test s.virtual
    (λ v. ap (λ (b : Bool). cond b two (mark_way ps s)) v
    ∙ ap (λ (u : State). mark_dirty u (leaf_of ps)) (mark_self s s.root r)
    ∙ mark_self s (leaf_of ps) (ap (λ (n : ℕ). (node_at s n).dirty) l ∙ d))
    (λ v. ap (λ (b : Bool). cond b two (mark_way ps s)) v ∙ way_self s m ps v d q)

-- ---- on the way after the leaf's edit

same_not : (s : State) (n i c : ℕ) → same_key (key_at (node_at s n).entries i) (key_at (node_at s c).entries 0) ≡ true → key_differs s n i c ≡ false
unfolding key_differs
same_not s n i c e =
    by_test (eqb (length (node_at s c).entries) 0) (λ t. rw t)
    (λ t. by_test (leb (length (node_at s n).entries) i) (λ u. rw (t, u)) (λ u. rw (t, u, e)))

drop_filled : (x : Step) (n : ℕ) (d : Dropped) → 0 < length (node_at d.state n).entries → drop_node x n d ≡ d
unfolding drop_node
drop_filled x n d h =
    by_list (node_at d.state n).entries
    (λ e. let z : 0 < 0 = rw e at h in absurd (omega arith))
    (λ y ys e. rw e)

module _ (s t : State) (m i : ℕ) (later : 0 < i) (some : 0 < length (node_at s m).entries)
    (k : Lacks s t m (remove_at i (node_at s m).entries)) where
  leaf_entries : (node_at t m).entries ≡ remove_at i (node_at s m).entries
  unfolding with_entries
  leaf_entries = ap (λ (x : MemNode). x.entries) k.here

  leaf_filled : 0 < length (node_at t m).entries
  leaf_filled = rw leaf_entries (some_kept i (node_at s m).entries later some)

  top_filled : (x : Step) (xs : List Step) → Quiet s m (x ∷ xs) → 0 < length (node_at t x.slot).entries
  top_filled x [] q = rw q leaf_filled
  top_filled x (y ∷ ys) q = rw (k.other x.slot q.0.apart) q.0.filled

  first_same : (x : Step) (xs : List Step) → Quiet s m (x ∷ xs) → key_at (node_at t x.slot).entries 0 ≡ key_at (node_at s x.slot).entries 0
  first_same x [] q = rw (q, leaf_entries) (first_kept i (node_at s m).entries later)
  first_same x (y ∷ ys) q = rw (k.other x.slot q.0.apart)

  drops_still : (ps : List Step) → Quiet s m ps → drop_emptied ps t ≡ record { state = t; nodes = 0 }
  unfolding drop_emptied
  drops_still [] q = refl
  drops_still (x ∷ []) q = refl
  drops_still (x ∷ y ∷ xs) q =
      ap (drop_node x y.slot) (drops_still (y ∷ xs) q.1)
      ∙ drop_filled x y.slot (record { state = t; nodes = 0 }) (top_filled y xs q.1)

  level_still : (x : Step) (xs : List Step) → Quiet s m (x ∷ xs) → x.slot ≡ s.root → leveled_root t ≡ t
  unfolding leveled_root
  level_still x xs q r =
      let h : 0 < length (node_at t t.root).entries = subst (λ (n : ℕ). 0 < length (node_at t n).entries) (r ∙ sym k.root)
      (top_filled x xs q) in
      by_list (node_at t t.root).entries
      (λ e. let z : 0 < 0 = rw e at h in absurd (omega arith))
      (λ y ys e. rw e)

  keys_still : (ps : List Step) → Quiet s m ps → index_keys ps t ≡ t
  unfolding index_keys
  keys_still [] q = refl
  keys_still (x ∷ []) q = refl
  keys_still (x ∷ y ∷ xs) q =
      let e : same_key (key_at (node_at t x.slot).entries x.child) (key_at (node_at t y.slot).entries 0) ≡ true =
      rw (k.other x.slot q.0.apart, first_same y xs q.1) q.0.same in
      ap (λ (u : State). set_index_key u x.slot x.child y.slot) (keys_still (y ∷ xs) q.1)
      ∙ sym (index_same t x.slot x.child y.slot (same_not t x.slot x.child y.slot e))

  module _ (leaf : fits s.info (eqb m s.root) (node_at s m).level (node_at s m).entries ≡ true) where
    leaf_whole : stays_whole t m ≡ true
    unfolding with_entries
    leaf_whole =
        by_test (node_at t m).dead (λ d. rw d)
        (λ d. rw (d, k.here, k.root, k.fitting (eqb m s.root) (node_at s m).level (remove_at i (node_at s m).entries))
        (fits_remove s.info (eqb m s.root) (node_at s m).level i (node_at s m).entries leaf))

    turn_whole : (n : ℕ) → (n ≡ m → ⊥) → stays_whole s n ≡ true → stays_whole t n ≡ true
    turn_whole n a h = rw (k.other n a, k.root, k.fitting (eqb n s.root) (node_at s n).level (node_at s n).entries) h

    step_whole : (x : Step) (xs : List Step) → Quiet s m (x ∷ xs) → stays_whole t x.slot ≡ true
    step_whole x [] q = rw q leaf_whole
    step_whole x (y ∷ ys) q = turn_whole x.slot q.0.apart q.0.settled.whole

    cuts_still : (l : Lent) (up ps : List Step) → Quiet s m ps → cuts l up ps t ≡ ok t
    unfolding cuts cut_node
    cuts_still l up [] q = refl
    cuts_still l up (x ∷ []) q = rw (step_whole x [] q)
    cuts_still l up (x ∷ y ∷ xs) q = rw (cuts_still l (x ∷ []) (y ∷ xs) q.1, step_whole x (y ∷ xs) q)

  only_still : (node_at s m).level ≡ 0 → has_only_child s ≡ false → has_only_child t ≡ false
  unfolding has_only_child with_entries
  only_still z h =
      by_test (eqb s.root m)
      (λ e.
      let r : t.root ≡ m = k.root ∙ eqb-true s.root m e in
      let v : (node_at t t.root).level ≡ 0 = ap (λ (n : ℕ). (node_at t n).level) r ∙ ap (λ (x : MemNode). x.level) k.here ∙ z in
      rw v)
      (λ e.
      let v : node_at t t.root ≡ node_at s s.root = ap (node_at t) k.root ∙ k.other s.root (eqb-false s.root m e) in
      ap (λ (x : MemNode). ltb 0 x.level && eqb (length x.entries) 1) v ∙ h)

  hands_still : (n : ℕ) (l : Lent) → (node_at s m).level ≡ 0 → has_only_child s ≡ false → hand_down n l t ≡ ok t
  unfolding hand_down
  hands_still zero l z h = refl
  hands_still (suc n) l z h = rw (only_still z h)

-- ---- the way

-- the way from slot n to leaf m: the state stays, and so does everything above the leaf
record Stays (s : State) (k : List ℕ) (d m n : ℕ) : Type 0 where
  top : Step
  rest : List Step
  goes : (l : Lent) (bs : load.Bounds) → way_from d l s bs n k ≡ ok (record { state = s; steps = top ∷ rest })
  first : top.slot ≡ n
  last : leaf_of (top ∷ rest) ≡ m
  quiet : Quiet s m (top ∷ rest)
  live : (node_at s m).dead ≡ false
  low : (node_at s m).level ≡ 0

still_way : (d : ℕ) (s : State) (k : List ℕ) (m n : ℕ) → Stands all all s → (node_at s n).dead ≡ false → (node_at s n).level ≡ d → StillTo d s k m n
    → Stays s k d m n
unfolding way_from leaf_of above
still_way zero s k m n st live lv h =
    record {
      top = record { slot = n; child = 0 };
      rest = [];
      goes = λ l bs. refl;
      first = refl;
      last = h;
      quiet = h;
      live = rw (← h) live;
      low = rw (← h) lv;
    }
still_way (suc d) s k m n st live lv h =
    let es : List Entry = (node_at s n).entries in
    let i : ℕ = way_index s.order k es in
    let c : ℕ = h.slot in
    let b : Below s c (node_at s n).level = (held_below_lem all all s n i c st live h.on.child).0 in
    let w : Stays s k d m c = still_way d s k m c st b.live (omega (arith, b.lower, lv)) h.below in
    let x : Step = record { slot = n; child = i } in
    record {
      top = x;
      rest = w.top ∷ w.rest;
      goes = λ l bs.
          loaded_down d l s bs n c k h.on.child ∙ rw (w.goes l (load.child_bounds s.order bs es i));
      first = refl;
      last = w.last;
      quiet = (
        record {
          apart = λ e. let z : 0 ≡ suc d = sym w.low ∙ ap (λ (j : ℕ). (node_at s j).level) (sym e) ∙ lv in omega arith;
          settled = h.on.settled;
          same = rw w.first h.on.same;
          filled =
              let u : i < length es = val_used es i (mem c) (λ z. let y : ◌≡◌ {A = ℕ} 0 1 = cc in absurd (omega arith)) h.on.child in
              omega arith;
        },
        w.quiet,
      );
      live = w.live;
      low = w.low;
    }

-- ---- the remove

-- the tree after: leaf m without entry i, a key less
abbrev pub taken : State → ℕ → ℕ → State
taken s m i =
    with_info (put_node s m (with_entries (node_at s m) (remove_at i (node_at s m).entries)))
    (with_counts s.info (s.info.key_count - 1) s.info.node_count)

module _ (s : State) (m i : ℕ) (used : m < length s.nodes) where
  put_lacks : Lacks s (put_node s m (with_entries (node_at s m) (remove_at i (node_at s m).entries))) m (remove_at i (node_at s m).entries)
  put_lacks =
      record {
        root = unfold put_node with_nodes in refl;
        other = λ n h. at_put_other s m (with_entries (node_at s m) (remove_at i (node_at s m).entries)) n h;
        here = at_put_same s m (with_entries (node_at s m) (remove_at i (node_at s m).entries)) used;
        fitting = λ b level es. unfold put_node with_nodes in refl;
      }

  taken_lacks : Lacks s (taken s m i) m (remove_at i (node_at s m).entries)
  taken_lacks =
      record {
        root = unfold put_node with_nodes with_info in refl;
        other = λ n h. (unfold with_info node_at in at_put_other s m (with_entries (node_at s m) (remove_at i (node_at s m).entries)) n h);
        here = (unfold with_info node_at in at_put_same s m (with_entries (node_at s m) (remove_at i (node_at s m).entries)) used);
        fitting = λ b level es. (unfold with_info with_counts in
            fits_like s.info (with_counts s.info (s.info.key_count - 1) s.info.node_count)
            (record { flags = refl; node = refl; key = refl; val = refl }) b level es);
      }

module _ (l : Lent) (s : State) (k : List ℕ) (m i : ℕ) (st : Stands all all s) (a : StaysAbove s m i)
    (there : is_there s.order k (node_at s m).entries ≡ true) (place : i ≡ place_of s.order k (node_at s m).entries)
    (w : Stays s k (node_at s s.root).level m s.root) where
  abbrev ps : List Step
  ps = w.top ∷ w.rest

  used : m < length s.nodes
  used = live_used s m w.live

  some : 0 < length (node_at s m).entries
  unfolding is_there
  some =
      by_list (node_at s m).entries
      (λ e. never (sym (ap (is_there s.order k) e) ∙ there) refl)
      (λ x xs e. rw e (omega arith))

  abbrev put : State
  put = put_node s m (with_entries (node_at s m) (remove_at i (node_at s m).entries))

  leaf_taken : take_from_leaf (touch ps s) (leaf_of ps) k ≡ put
  unfolding take_from_leaf
  leaf_taken =
      ap (λ (u : State). take_from_leaf u (leaf_of ps) k) (touch_self s m ps w.last a.root a.leaf w.quiet)
      ∙ ap (λ (n : ℕ). take_from_leaf s n k) w.last
      ∙ ap (λ (j : ℕ). put_node s m (with_entries (node_at s m) (remove_at j (node_at s m).entries))) (sym place)

  dropped : drop_emptied ps (take_from_leaf (touch ps s) (leaf_of ps) k) ≡ record { state = put; nodes = 0 }
  dropped = ap (drop_emptied ps) leaf_taken ∙ drops_still s put m i a.later some (put_lacks s m i used) ps w.quiet

  fit : fits s.info (eqb m s.root) (node_at s m).level (node_at s m).entries ≡ true
  fit = st.dirty m w.live a.leaf refl

  follows : cuts l [] ps (index_keys ps (leveled_root (taken s m i))) ≡ ok (taken s m i)
  follows =
      let g = taken_lacks s m i used in
      ap (λ (u : State). cuts l [] ps (index_keys ps u)) (level_still s (taken s m i) m i a.later some g w.top w.rest w.quiet w.first)
      ∙ ap (cuts l [] ps) (keys_still s (taken s m i) m i a.later some g ps w.quiet)
      ∙ cuts_still s (taken s m i) m i a.later some g fit l [] ps w.quiet

  abbrev after : Dropped → Result State
  after d =
      check refusal.count (ltb 0 s.info.key_count && leb d.nodes s.info.node_count)
      >> cuts l [] ps
      (index_keys ps (leveled_root (with_info d.state (with_counts s.info (s.info.key_count - 1) (s.info.node_count - d.nodes)))))

  shrunk : shrunk_on l k (record { state = s; steps = ps }) ≡ ok (taken s m i)
  unfolding shrunk_on
  shrunk =
      let z : s.info.node_count - 0 ≡ s.info.node_count = omega arith in
      ap after dropped
      ∙ rw (lt-ltb 0 s.info.key_count a.keys, le-leb 0 s.info.node_count (omega arith))
      (ap (λ (j : ℕ). cuts l [] ps (index_keys ps (leveled_root (with_info put (with_counts s.info (s.info.key_count - 1) j))))) z ∙ follows)

  is_removed : removed l s k ≡ ok (record { state = taken s m i; present = true })
  unfolding removed remove_on way
  is_removed =
      rw (w.goes l load.unbounded, w.last, there, shrunk)
      (ap (λ (r : Result State). r >>= λ t. ok (record { state = t; present = true }))
      (hands_still s (taken s m i) m i a.later some (taken_lacks s m i used) (node_at (taken s m i) (taken s m i).root).level l w.low
      a.more))

-- a key's way that stays, and an entry of its leaf that can be taken out alone
pub still_removed : (l : Lent) (s : State) (k : List ℕ) (m i : ℕ) → Stands all all s → StaysAbove s m i
    → is_there s.order k (node_at s m).entries ≡ true → i ≡ place_of s.order k (node_at s m).entries
    → StillTo (node_at s s.root).level s k m s.root
    → removed l s k ≡ ok (record { state = taken s m i; present = true })
still_removed l s k m i st a there place h =
    is_removed l s k m i st a there place (still_way (node_at s s.root).level s k m s.root st st.root refl h)
