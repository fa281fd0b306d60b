-- No remove answers 1 on slots that hold together: the way, the cuts and every step of the root's place down. Assumes nothing.
use Rattle.std.specs.Prelude.{◌≡◌, false, ◌&&◌, ◌||◌, length, ltb}
use Rattle.std.proofs.Math.Path.{refl}
use Rattle.std.proofs.Common.{sym, subst, arith}
use mathlib.Core.List.{List, [], ◌∷◌}
use Rattle.std.proofs.Math.Bool.{true}
use Prim.Native.Nat.{ℕ, zero, suc, ◌-◌, ◌≤◌, ◌<◌}
use Rattle.std.proofs.Math.Dec.{leb, eqb}
use borrow.Author.Tests.{ltb-true, ltb-false, eqb-true}
use Rattle.node.specs.Result.{ok, ◌>>=◌}
use Rattle.node.specs.Refusals as refusal
use Rattle.node.specs.laws.base.Results.{Holds, holds_ok, holds_bind, holds_then, holds_check}
use Rattle.node.specs.Order.{keyed}
use Rattle.node.specs.Entry.{Entry, Val, ghost, leaf, disk, mem, every}
use Rattle.node.specs.Find.{val_at, is_there}
use Rattle.node.specs.Fit.{fits}
use Rattle.node.specs.Cut.{cut}
use Rattle.node.specs.Read.{OnDisk}
use Rattle.node.specs.Slot.{is_child}
use Rattle.node.specs.laws.base.Tests.{by_test, never, and_split}
use Rattle.tree.specs.Lent.{Lent}
use Rattle.tree.specs.State.{State, node_at, with_info, with_counts, with_entries, changed, marked_dirty, marked_dead, with_place, made}
use Rattle.tree.specs.Load.{Bounds, unbounded, adopted, At, load_child}
use Rattle.tree.specs.Lookup.{Step, Way, way, leaf_of}
use Rattle.tree.specs.Edit.{touch, index_keys, more_nodes, room_for, parted, link_right, root_entries, grow_root, new_root_holds, cut_at, cut_node, cuts}
use Rattle.tree.specs.Remove.{Dropped, drop_emptied, leveled_root, handed_down, has_only_child, root_taken, hand_down, take_from_leaf, shrunk_on, remove_on}
use Rattle.tree.specs.Remove.{removed, remove_in}
use Rattle.tree.specs.laws.state.Load.{brought, by_load}
use Rattle.theorem.specs.disk.Read.{Every}
use Rattle.theorem.specs.one.Reads.{Quiet, quiet_ok, quiet_bind, quiet_check, quiet_cond, Silent, cuts_silent}
use Rattle.theorem.specs.one.Ways.{is_disk, Fetched, load_fetched, ChildAt, Filled, Fine, Calm, load_quiet}
use Rattle.theorem.specs.one.Lookups.{Seen, AllLive, root_way}
use Rattle.theorem.specs.one.Edits.{every_take, every_drop, every_insert, In, AllIn, KidIn, Kids, kids_value, Sure, sure_put, sure_add, sure_root}
use Rattle.theorem.specs.one.Edits.{sure_info, touch_sure, take_sure, drops_sure, level_sure, index_sure, unused_level}

-- ---- at the start

child_in : (s : State) (l : ℕ) (v : Val) → ChildAt s l v → KidIn s v
child_in s l ghost h = h
child_in s l (leaf b) h = h
child_in s l (disk r) h = tt
child_in s l (mem c) h = λ lt. h.live

every_val : (P : Val → Type 0) (es : List Entry) → ((i : ℕ) → i < length es → P (val_at es i)) → Every (λ e. P e.value) es
unfolding val_at
every_val P [] f = tt
every_val P (e ∷ es) f = (f 0 (omega arith), every_val P es (λ i lt. f (suc i) (omega arith)))

pub fine_sure : (s : State) → Fine s → (node_at s s.root).dead ≡ false → Sure s s
fine_sure s fine live =
    record {
      root = λ lt. live;
      more = omega arith;
      each = λ n i lv. by_test (ltb n (length s.nodes))
          (λ u.
          let f : Filled s ((node_at s n).level - 1) (node_at s n).entries = fine.each n ((node_at s n).level - 1)
          (record { live = i (ltb-true n _ u); level = omega arith }) in
          every_val (KidIn s) (node_at s n).entries (λ k lt. child_in s ((node_at s n).level - 1) (val_at (node_at s n).entries k) (f.kids k lt)))
          (λ u. let z = unused_level s n (ltb-false n (length s.nodes) u) in absurd (omega arith));
    }

pub all_in : (s : State) (ps : List Step) → AllLive s ps → AllIn s ps
all_in s [] h = tt
all_in s (x ∷ xs) h = ((λ lt. h.0), all_in s xs h.1)

module _ (s₀ : State) where
  -- ---- cuts

  new_in : (s : State) → Sure s₀ s → (c : ℕ) → length s.nodes ≤ c → In s₀ c
  new_in s h c le = λ lt. absurd (omega (arith, h.more))

  parted_sure : (s : State) (n c : ℕ) → In s₀ n → Sure s₀ s → Sure s₀ (parted s n c)
  unfolding parted changed made
  parted_sure s n c i h =
      let es : List Entry = (node_at s n).entries in
      sure_add s₀ _ _ (sure_put s₀ s n _ h (λ _ lv. every_take _ c es (h.each n i lv))) (λ _ lv. every_drop _ c es (h.each n i lv))

  link_sure : (s : State) (p i r : ℕ) → In s₀ r → Sure s₀ s → Sure s₀ (link_right s p i r)
  unfolding link_right changed
  link_sure s p i r k h = sure_put s₀ s p _ h (λ j lv. every_insert _ (suc i) _ (node_at s p).entries k (h.each p j lv))

  grow_sure : (s : State) (n r : ℕ) → In s₀ n → In s₀ r → Sure s₀ s → Sure s₀ (grow_root s n r)
  unfolding grow_root with_place made root_entries
  grow_sure s n r i k h =
      sure_root s₀ _ (length s.nodes) (sure_add s₀ _ _ (sure_put s₀ s n _ h (λ j lv. h.each n j lv)) (λ j lv. (i, (k, tt))))
      (new_in s h (length s.nodes) (omega arith))

  more_sure : (s : State) (n : ℕ) → Sure s₀ s → Sure s₀ (more_nodes s n)
  unfolding more_nodes
  more_sure s n h = sure_info s₀ s _ h

  cut_at_sure : (l : Lent) (up : List Step) (n c : ℕ) (s : State) → In s₀ n → Sure s₀ s → Holds (Sure s₀) (cut_at l up n c s)
  unfolding cut_at
  cut_at_sure l [] n c s i h =
      holds_check refusal.new_root (new_root_holds (parted s n c) n (length s.nodes)) _ λ _.
      holds_then (room_for l s 2) _ λ _ _.
      holds_ok (more_sure _ 2 (grow_sure (parted s n c) n (length s.nodes) i (new_in s h (length s.nodes) (omega arith))
      (parted_sure s n c i h)))
  cut_at_sure l (x ∷ xs) n c s i h =
      holds_then (room_for l s 1) _ λ _ _.
      holds_ok (more_sure _ 1 (link_sure (parted s n c) x.slot x.child (length s.nodes) (new_in s h (length s.nodes) (omega arith))
      (parted_sure s n c i h)))

  cut_node_sure : (l : Lent) (up : List Step) (n : ℕ) (s : State) → In s₀ n → Sure s₀ s → Holds (Sure s₀) (cut_node l up n s)
  unfolding cut_node
  cut_node_sure l up n s i h =
      by_test ((node_at s n).dead || fits s.info (eqb n s.root) (node_at s n).level (node_at s n).entries)
      (λ t. rw t (holds_ok h))
      (λ t. rw t (holds_bind (cut s.info (node_at s n).level (node_at s n).entries) _ λ c e. cut_at_sure l up n c s i h))

  cuts_sure : (l : Lent) (up ps : List Step) (s : State) → AllIn s₀ ps → Sure s₀ s → Holds (Sure s₀) (cuts l up ps s)
  unfolding cuts
  cuts_sure l up [] s i h = holds_ok h
  cuts_sure l up (x ∷ xs) s i h = holds_bind (cuts l (x ∷ []) xs s) _ λ t e. cut_node_sure l up x.slot t i.0
      ((cuts_sure l (x ∷ []) xs s i.1 h).at t e)

  -- ---- the root's place handed down

  val_every : (P : Val → Type 0) (es : List Entry) (i : ℕ) → i < length es → Every (λ e. P e.value) es → P (val_at es i)
  unfolding val_at
  val_every P [] i lt h = absurd (omega arith)
  val_every P (e ∷ es) zero lt h = h.0
  val_every P (e ∷ es) (suc i) lt h = val_every P es i (omega arith) h.1

  kid_child : (v : Val) → KidIn s₀ v → is_child v ≡ true
  unfolding is_child
  kid_child ghost h = absurd h
  kid_child (leaf b) h = absurd h
  kid_child (disk r) h = refl
  kid_child (mem c) h = refl

  kid_mem : (v : Val) (c : ℕ) → v ≡ mem c → KidIn s₀ v → In s₀ c
  kid_mem v c q h = subst (KidIn s₀) q h

  disks_kids : (es : List Entry) → every (λ e. is_disk e.value) es ≡ true → Kids s₀ es
  unfolding every
  disks_kids [] h = tt
  disks_kids (e ∷ es) h = let (a, b) = and_split (is_disk e.value) (every (λ x. is_disk x.value) es) h in (one e.value a, disks_kids es b)
    where
      one : (v : Val) → is_disk v ≡ true → KidIn s₀ v
      one ghost k = never k refl
      one (leaf b) k = never k refl
      one (disk r) k = tt
      one (mem c) k = never k refl

  brought_sure : (s : State) (n i : ℕ) (d : OnDisk) (b : ℕ) → Sure s₀ s → Fetched (node_at s n).level d → Sure s₀ (brought s n i d b).state
  unfolding with_entries adopted
  brought_sure s n i d b h f =
      sure_add s₀ _ _ (sure_put s₀ s n _ h (λ j lv. kids_value s₀ i (mem (length s.nodes)) (node_at s n).entries
      (new_in s h (length s.nodes) (omega arith)) (h.each n j lv)))
      (λ j lv. disks_kids d.entries (f.disks (d.node.level - 1) (omega arith)))

  load_sure : (l : Lent) (s : State) (bs : Bounds) (n i : ℕ) (a : At) → Sure s₀ s → KidIn s₀ (val_at (node_at s n).entries i)
      → load_child l s bs n i ≡ ok a → Sure s₀ a.state × In s₀ a.slot
  load_sure l s bs n i a h k e =
      by_load l s bs n i a e
      (λ c q p. subst (λ (z : At). Sure s₀ z.state × In s₀ z.slot) (sym p) (h, kid_mem _ c q k))
      (λ r d b q room w x p. subst (λ (z : At). Sure s₀ z.state × In s₀ z.slot) (sym p)
      (brought_sure s n i d b h (load_fetched l s.order _ _ (node_at s n).level r b _ d x), new_in s h (length s.nodes) (omega arith)))

  handed_sure : (s : State) (c : ℕ) → In s₀ c → Sure s₀ s → Sure s₀ (handed_down s c)
  unfolding handed_down marked_dead marked_dirty changed with_place
  handed_sure s c i h =
      sure_info s₀ _ _ (sure_root s₀ _ c (sure_put s₀ _ c _ (sure_put s₀ s s.root _ h (λ j lv. tt)) (λ j lv. h.each c j lv)) i)

  hand_silent : (n : ℕ) (l : Lent) (s : State) → Sure s₀ s → Silent (hand_down n l s)
  unfolding hand_down root_taken has_only_child
  hand_silent zero l s h = quiet_ok tt
  hand_silent (suc n) l s h =
      quiet_cond (ltb 0 (node_at s s.root).level && eqb (length (node_at s s.root).entries) 1) _ _
      (λ t.
      let (a, b) = and_split (ltb 0 (node_at s s.root).level) (eqb (length (node_at s s.root).entries) 1) t in
      let k : KidIn s₀ (val_at (node_at s s.root).entries 0) =
      val_every (KidIn s₀) (node_at s s.root).entries 0 (omega (arith, eqb-true (length (node_at s s.root).entries) 1 b))
      (h.each s.root h.root (ltb-true 0 (node_at s s.root).level a)) in
      quiet_bind (load_child l s unbounded s.root 0) _ (load_quiet l s unbounded s.root 0 (kid_child _ k)) λ c e _.
      let (u, i) = load_sure l s unbounded s.root 0 c h k e in
      quiet_cond (fits c.state.info true (node_at c.state c.slot).level (node_at c.state c.slot).entries) _ _
      (λ f. quiet_check refusal.count (ltb 0 c.state.info.node_count) _ refl λ _. hand_silent n l (handed_down c.state c.slot)
      (handed_sure c.state c.slot i u))
      (λ f. quiet_ok tt))
      (λ t. quiet_ok tt)

  -- ---- the edit on a way

  shrunk_sure : (l : Lent) (k : List ℕ) (w : Way) → AllIn s₀ w.steps → Sure s₀ w.state → Quiet (Sure s₀) (shrunk_on l k w)
  unfolding shrunk_on
  shrunk_sure l k w i h =
      let s : State = w.state in
      let d : Dropped = drop_emptied w.steps (take_from_leaf (touch w.steps s) (leaf_of w.steps) k) in
      let t : State = with_info d.state (with_counts s.info (s.info.key_count - 1) (s.info.node_count - d.nodes)) in
      let u : State = index_keys w.steps (leveled_root t) in
      let q : Sure s₀ u =
      index_sure s₀ w.steps (leveled_root t) (level_sure s₀ t (sure_info s₀ d.state _
      (drops_sure s₀ w.steps (take_from_leaf (touch w.steps s) (leaf_of w.steps) k)
      (take_sure s₀ (touch w.steps s) (leaf_of w.steps) k (touch_sure s₀ w.steps s h))))) in
      quiet_check refusal.count (ltb 0 s.info.key_count && leb d.nodes s.info.node_count) _ refl λ _.
      record { silent = (cuts_silent l [] w.steps u).silent; at = (cuts_sure l [] w.steps u i q).at }

-- a remove, after 1 was asked
pub removed_silent : (l : Lent) (s : State) → Calm s → (k : List ℕ) → Silent (removed l s k)
unfolding removed remove_on
removed_silent l s h k =
    quiet_bind (way l s k) _ (root_way l s h k) λ w e q.
    let seen : Seen s w.state = q.0 in
    let top : (node_at w.state w.state.root).dead ≡ false =
    subst (λ (r : ℕ). (node_at w.state r).dead ≡ false) (sym seen.keeps.root)
    (seen.keeps.live (node_at s s.root).level s.root (record { live = h.root; level = refl })).live in
    let sure : Sure w.state w.state = fine_sure w.state seen.fine top in
    quiet_cond (is_there s.order k (node_at w.state (leaf_of w.steps)).entries) _ _
    (λ t.
    quiet_bind (shrunk_on l k w >>= λ u. hand_down (node_at u u.root).level l u) _
    (quiet_bind (shrunk_on l k w) _ (shrunk_sure w.state l k w (all_in w.state w.steps q.1) sure) λ u f r. hand_silent w.state
    (node_at u u.root).level l u r)
    λ v f _. quiet_ok tt)
    (λ t. quiet_ok tt)

pub remove_silent : (l : Lent) (s : State) → Calm s → (k : List ℕ) → Silent (remove_in l s k)
unfolding remove_in
remove_silent l s h k = quiet_check refusal.argument (keyed s.order k) _ refl λ _. removed_silent l s h k
