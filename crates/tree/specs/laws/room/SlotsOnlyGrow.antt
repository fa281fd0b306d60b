-- No call gives a slot back: what an accepted load, remove or drop leaves has as many slots in use, or more. Assumes nothing.
use Rattle.std.specs.Prelude.{◌≡◌, List, [], ◌∷◌, Bool, true, false, cond, ◌&&◌, ℕ, zero, suc, ◌-◌, ◌≤◌, length, leb, ltb}
use Rattle.std.proofs.Math.Path.{refl}
use Rattle.std.proofs.Common.{◌∙◌, le_refl, le_trans, arith}
use Rattle.node.specs.Result.{Result}
use Rattle.node.specs.Entry.{Entry}
use Rattle.node.specs.Find.{is_there}
use Rattle.node.specs.Fit.{fits}
use Rattle.node.specs.Refusals as refusal
use Rattle.node.specs.Slot.{MemNode}
use Rattle.node.specs.declared.info.BTreeInfo.{BTreeInfo}
use Rattle.node.specs.laws.base.Results.{Holds, holds_ok, holds_bind, holds_check}
use Rattle.tree.specs.Lent.{Lent}
use Rattle.tree.specs.State.{State, node_at, put_node, add_node, with_root, with_info, with_counts}
use Rattle.tree.specs.Load.{Bounds, unbounded, child_bounds, load_child}
use Rattle.tree.specs.Lookup.{Step, Way, above, way_from, way, leaf_of, Got, range_enters, range_kids, range_from}
use Rattle.tree.specs.Edit.{mark_way, mark_dirty, touch, index_keys, more_nodes, parted, link_right, grow_root, cut_node, cuts}
use Rattle.tree.specs.Remove.{Dropped, drop_node, drop_emptied, leveled_root, handed_down, has_only_child, root_taken, hand_down, take_from_leaf, shrunk_on, remove_on, removed}
use Rattle.tree.specs.Omap.{versions_end, remove_all, dropped}
use Rattle.tree.specs.laws.state.State.{put_count, add_count}
use Rattle.tree.specs.laws.state.Load.{load_keeps}
use Rattle.tree.specs.laws.trust.Loads.{holds_cond, by_list}
use Rattle.tree.specs.laws.room.Edit.{index_count}
use Rattle.tree.specs.laws.trust.Cut.{by_cut, by_top}

-- as many slots in use, or more
pub record Grows (s u : State) : Type 0 where
  pub more : length s.nodes ≤ length u.nodes

grows_same : (s u : State) → length u.nodes ≡ length s.nodes → Grows s u
grows_same s u e = record { more = omega arith }

grows_refl : (s : State) → Grows s s
grows_refl s = record { more = le_refl _ }

pub grows_then : (s t u : State) → Grows s t → Grows t u → Grows s u
grows_then s t u a b = record { more = le_trans a.more b.more }

-- ---- loads

load_grows : (l : Lent) (s : State) (bs : Bounds) (n i : ℕ) → Holds (λ a. Grows s a.state) (load_child l s bs n i)
load_grows l s bs n i = record { at = λ a e. record { more = (load_keeps l s bs n i a e).more } }

ways_grow : (d : ℕ) (l : Lent) (s : State) (bs : Bounds) (n : ℕ) (k : List ℕ) → Holds (λ w. Grows s w.state) (way_from d l s bs n k)
unfolding way_from above
ways_grow zero l s bs n k = holds_ok (grows_refl s)
ways_grow (suc d) l s bs n k =
    holds_bind (load_child l s bs n _) _ λ a e.
    holds_bind (way_from d l a.state _ a.slot k) _ λ w q.
    holds_ok (grows_then s a.state w.state ((load_grows l s bs n _).at a e) ((ways_grow d l a.state _ a.slot k).at w q))

way_grows : (l : Lent) (s : State) (k : List ℕ) → Holds (λ w. Grows s w.state) (way l s k)
unfolding way
way_grows l s k = ways_grow (node_at s s.root).level l s unbounded s.root k

kids_grow : (f : State → Bounds → ℕ → Result (Got Entry)) → ((s : State) (bs : Bounds) (n : ℕ) → Holds (λ g. Grows s g.state) (f s bs n))
    → (l : Lent) (s : State) (bs : Bounds) (n : ℕ) (lo : List ℕ) (hi : List (List ℕ)) (m i : ℕ)
    → Holds (λ g. Grows s g.state) (range_kids f l s bs n lo hi m i)
unfolding range_kids
kids_grow f h l s bs n lo hi zero i = holds_ok (grows_refl s)
kids_grow f h l s bs n lo hi (suc m) i =
    holds_cond (range_enters s.order lo hi (node_at s n).entries i) _ _
    (λ t.
    holds_bind (load_child l s bs n i) _ λ a e.
    holds_bind (f a.state (child_bounds s.order bs (node_at s n).entries i) a.slot) _ λ g q.
    let x = grows_then s a.state g.state ((load_grows l s bs n i).at a e) ((h a.state _ a.slot).at g q) in
    holds_bind (range_kids f l g.state bs n lo hi m (suc i)) _ λ u z.
    holds_ok (grows_then s g.state u.state x ((kids_grow f h l g.state bs n lo hi m (suc i)).at u z)))
    (λ t. kids_grow f h l s bs n lo hi m (suc i))

pub range_grows : (d : ℕ) (l : Lent) (lo : List ℕ) (hi : List (List ℕ)) (s : State) (bs : Bounds) (n : ℕ)
    → Holds (λ g. Grows s g.state) (range_from d l lo hi s bs n)
unfolding range_from
range_grows zero l lo hi s bs n = holds_ok (grows_refl s)
range_grows (suc d) l lo hi s bs n = kids_grow (range_from d l lo hi) (range_grows d l lo hi) l s bs n lo hi (length (node_at s n).entries) 0

-- ---- the steps of a remove

marks_count : (ps : List Step) (s : State) → length (mark_way ps s).nodes ≡ length s.nodes
unfolding mark_way
marks_count [] s = refl
marks_count (x ∷ ps) s = marks_count ps _ ∙ put_count s x.slot _

either_count : (t : Bool) (x y : State) (n : ℕ) → length x.nodes ≡ n → length y.nodes ≡ n → length (cond t x y).nodes ≡ n
either_count true x y n p q = p
either_count false x y n p q = q

touch_count : (ps : List Step) (s : State) → length (touch ps s).nodes ≡ length s.nodes
unfolding touch mark_dirty
touch_count ps s = either_count s.virtual _ _ (length s.nodes) (put_count (put_node s s.root _) (leaf_of ps) _ ∙ put_count s s.root _)
    (marks_count ps s)

take_count : (s : State) (n : ℕ) (k : List ℕ) → length (take_from_leaf s n k).nodes ≡ length s.nodes
unfolding take_from_leaf
take_count s n k = put_count s n _

drop_count : (x : Step) (n : ℕ) (d : Dropped) → length (drop_node x n d).state.nodes ≡ length d.state.nodes
unfolding drop_node
drop_count x n d =
    by_list (node_at d.state n).entries
    (λ z. rw z (put_count (put_node d.state n _) x.slot _ ∙ put_count d.state n _))
    (λ e es z. rw z)

drops_count : (ps : List Step) (s : State) → length (drop_emptied ps s).state.nodes ≡ length s.nodes
unfolding drop_emptied
drops_count [] s = refl
drops_count (x ∷ []) s = refl
drops_count (x ∷ y ∷ ps) s = drop_count x y.slot (drop_emptied (y ∷ ps) s) ∙ drops_count (y ∷ ps) s

level_count : (s : State) → length (leveled_root s).nodes ≡ length s.nodes
unfolding leveled_root
level_count s =
    by_list (node_at s s.root).entries
    (λ z. rw z (put_count s s.root _))
    (λ e es z. rw z)

hand_count : (s : State) (c : ℕ) → length (handed_down s c).nodes ≡ length s.nodes
unfolding handed_down with_info with_root
hand_count s c = put_count (put_node s s.root _) c _ ∙ put_count s s.root _

-- ---- cuts

next_grows : (s : State) (n : ℕ) (m e : MemNode) → length s.nodes ≤ length (add_node (put_node s n m) e).nodes
next_grows s n m e = omega (arith, add_count (put_node s n m) e, put_count s n m)

parted_grows : (s : State) (n c : ℕ) → length s.nodes ≤ length (parted s n c).nodes
unfolding parted
parted_grows s n c = next_grows s n _ _

link_grows : (s : State) (p i r : ℕ) → length s.nodes ≤ length (more_nodes (link_right s p i r) 1).nodes
unfolding more_nodes with_info link_right
link_grows s p i r = let z : length (put_node s p _).nodes ≡ length s.nodes = put_count s p _ in le_of z
  where
    le_of : {a b : ℕ} → a ≡ b → b ≤ a
    le_of e = omega arith

top_grows : (s : State) (n r : ℕ) → length s.nodes ≤ length (more_nodes (grow_root s n r) 2).nodes
unfolding more_nodes with_info grow_root with_root
top_grows s n r = next_grows s n _ _

cut_grows : (l : Lent) (x : Step) (n : ℕ) (s : State) → Holds (Grows s) (cut_node l (x ∷ []) n s)
cut_grows l x n s =
    by_cut (Grows s) l x n s (λ t. grows_refl s)
    (λ c live ps room. record { more = le_trans (parted_grows s n c) (link_grows (parted s n c) x.slot x.child (length s.nodes)) })

under_grow : (l : Lent) (x : Step) (ps : List Step) (s : State) → Holds (Grows s) (cuts l (x ∷ []) ps s)
unfolding cuts
under_grow l x [] s = holds_ok (grows_refl s)
under_grow l x (y ∷ ps) s =
    holds_bind (cuts l (y ∷ []) ps s) _ λ t e.
    record { at = λ u q. grows_then s t u ((under_grow l y ps s).at t e) ((cut_grows l x y.slot t).at u q) }

root_grows : (l : Lent) (n : ℕ) (s : State) → Holds (Grows s) (cut_node l [] n s)
root_grows l n s =
    by_top (Grows s) l n s (λ t. grows_refl s)
    (λ c live ps h room. record { more = le_trans (parted_grows s n c) (top_grows (parted s n c) n (length s.nodes)) })

cuts_grow : (l : Lent) (ps : List Step) (s : State) → Holds (Grows s) (cuts l [] ps s)
unfolding cuts
cuts_grow l [] s = holds_ok (grows_refl s)
cuts_grow l (x ∷ ps) s =
    holds_bind (cuts l (x ∷ []) ps s) _ λ t e.
    record { at = λ u q. grows_then s t u ((under_grow l x ps s).at t e) ((root_grows l x.slot t).at u q) }

-- ---- a remove

shrunk_grows : (l : Lent) (k : List ℕ) (w : Way) → Holds (Grows w.state) (shrunk_on l k w)
unfolding shrunk_on
shrunk_grows l k w =
    let s : State = w.state in
    let ps : List Step = w.steps in
    let d : Dropped = drop_emptied ps (take_from_leaf (touch ps s) (leaf_of ps) k) in
    let t : State = with_info d.state (with_counts s.info (s.info.key_count - 1) (s.info.node_count - d.nodes)) in
    let a : length t.nodes ≡ length s.nodes =
    info_count d.state _ ∙ drops_count ps (take_from_leaf (touch ps s) (leaf_of ps) k) ∙ take_count (touch ps s) (leaf_of ps) k ∙ touch_count ps s in
    let b : length (index_keys ps (leveled_root t)).nodes ≡ length s.nodes = index_count ps (leveled_root t) ∙ level_count t ∙ a in
    holds_check refusal.count (ltb 0 s.info.key_count && leb d.nodes s.info.node_count) _ λ z.
    record {
      at = λ u q. grows_then s (index_keys ps (leveled_root t)) u (grows_same s (index_keys ps (leveled_root t)) b)
          ((cuts_grow l ps (index_keys ps (leveled_root t))).at u q);
    }
  where
    info_count : (s : State) (i : BTreeInfo) → length (with_info s i).nodes ≡ length s.nodes
    info_count s i = unfold with_info in refl

hands_grow : (n : ℕ) (l : Lent) (s : State) → Holds (Grows s) (hand_down n l s)
unfolding hand_down root_taken
hands_grow zero l s = holds_ok (grows_refl s)
hands_grow (suc n) l s =
    holds_cond (has_only_child s) _ _
    (λ t.
    holds_bind (load_child l s unbounded s.root 0) _ λ a e.
    let x = (load_grows l s unbounded s.root 0).at a e in
    let v : State = handed_down a.state a.slot in
    holds_cond (fits a.state.info true (node_at a.state a.slot).level (node_at a.state a.slot).entries) _ _
    (λ f. holds_check refusal.count (ltb 0 a.state.info.node_count) (hand_down n l v) λ z.
    record {
      at = λ u q. grows_then s a.state u x (grows_then a.state v u (grows_same a.state v (hand_count a.state a.slot))
          ((hands_grow n l v).at u q));
    })
    (λ f. holds_ok x))
    (λ t. holds_ok (grows_refl s))

remove_grows : (l : Lent) (k : List ℕ) (w : Way) → Holds (Grows w.state) (remove_on l k w)
unfolding remove_on
remove_grows l k w =
    holds_bind (shrunk_on l k w) _ λ t e.
    record { at = λ u q. grows_then w.state t u ((shrunk_grows l k w).at t e) ((hands_grow (node_at t t.root).level l t).at u q) }

pub removed_grows : (l : Lent) (s : State) (k : List ℕ) → Holds (λ r. Grows s r.state) (removed l s k)
unfolding removed
removed_grows l s k =
    holds_bind (way l s k) _ λ w e.
    let x = (way_grows l s k).at w e in
    holds_cond (is_there s.order k (node_at w.state (leaf_of w.steps)).entries) _ _
    (λ t. holds_bind (remove_on l k w) _ λ u q. holds_ok (grows_then s w.state u x ((remove_grows l k w).at u q)))
    (λ t. holds_ok x)

-- ---- the drop

removes_grow : (l : Lent) (es : List Entry) (s : State) → Holds (Grows s) (remove_all l es s)
unfolding remove_all
removes_grow l [] s = holds_ok (grows_refl s)
removes_grow l (e ∷ es) s =
    holds_bind (removed l s e.key) _ λ r q.
    record { at = λ u z. grows_then s r.state u ((removed_grows l s e.key).at r q) ((removes_grow l es r.state).at u z) }

pub dropped_grows : (l : Lent) (s : State) (id : ℕ) → Holds (Grows s) (dropped l s id)
unfolding dropped
dropped_grows l s id =
    holds_bind (range_from (node_at s s.root).level l _ (versions_end id) s unbounded s.root) _ λ g e.
    let x = (range_grows _ l _ _ s unbounded s.root).at g e in
    record { at = λ u z. grows_then s g.state u x ((removes_grow l g.answer g.state).at u z) }
