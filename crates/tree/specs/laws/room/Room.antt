-- Room in the slots: a clean node takes at most two blocks' worth, and so does every node after an accepted call, as what is dirty then fits. Assumes
-- nothing.
use Rattle.std.specs.Prelude.{◌≡◌, refl, List, [], ◌∷◌, true, false, ◌||◌, not, ℕ, ◌*◌, ◌≤◌, ◌<◌, length, ltb, eqb}
use Rattle.std.proofs.Common.{ap, ◌∙◌, arith, ltb-true, ltb-false, eqb-true}
use Rattle.std.proofs.Math.Seq.{set_out}
use Rattle.std.proofs.lemmas.Bool.{eqb-false}
use Rattle.node.specs.Order.{same_key}
use Rattle.node.specs.Entry.{Entry, Val}
use Rattle.node.specs.Find.{key_at}
use Rattle.node.specs.Slot.{MemNode}
use Rattle.node.specs.declared.info.BTreeInfo.{BTreeInfo}
use Rattle.node.specs.laws.base.Tests.{by_test, never}
use Rattle.node.specs.laws.base.Results.{Holds, holds_ok, holds_bind}
use Rattle.tree.specs.Lent.{Lent}
use Rattle.tree.specs.State.{State, node_at, put_node, add_node, with_nodes, with_info, with_root, with_entries, changed, marked_dirty, marked_dead}
use Rattle.tree.specs.State.{with_place, with_level, made}
use Rattle.tree.specs.Lookup.{Step, leaf_of}
use Rattle.tree.specs.Edit.{mark_way, mark_dirty, touch, set_index_key, index_keys, more_nodes, parted, link_right, grow_root, cut_node, cuts}
use Rattle.tree.specs.Upsert.{put_in_leaf}
use Rattle.tree.specs.Remove.{Dropped, drop_node, drop_emptied, leveled_root, handed_down, take_from_leaf}
use Rattle.tree.specs.internal.Room.{Roomy}
use Rattle.tree.specs.laws.state.State.{at_put_same, put_count, at_put_other}
use Rattle.tree.specs.laws.trust.Named.{names_other}
use Rattle.tree.specs.laws.trust.Stands.{Stands, all}
use Rattle.tree.specs.laws.trust.OneStep.{put_each, add_each}
use Rattle.tree.specs.laws.trust.Loads.{by_list}
use Rattle.tree.specs.laws.trust.Edit.{on_way, pick}
use Rattle.tree.specs.laws.trust.Cut.{by_cut, by_top}
use Rattle.tree.specs.laws.room.Weight.{weight, fits_weight}

-- those of a clean one do
pub record Light (k : ℕ) (s : State) : Type 0 where
  pub most : (n : ℕ) → (node_at s n).dead ≡ false → (node_at s n).dirty ≡ false → weight (node_at s n).entries ≤ k

abbrev Slight : ℕ → MemNode → Type 0
Slight k m = m.dead ≡ false → m.dirty ≡ false → weight m.entries ≤ k

pub roomy_light : (k : ℕ) (s : State) → Roomy k s → Light k s
roomy_light k s h = record { most = λ n a b. h.most n a }

-- what is dirty fits: at most two blocks' worth in every slot again
pub light_roomy : (s : State) → Stands all all s → Light (2 * s.info.node_size) s → Roomy (2 * s.info.node_size) s
light_roomy s st h =
    record {
      most = λ n live. by_test (node_at s n).dirty
          (λ t. let k = fits_weight s.info (eqb n s.root) (node_at s n).level (node_at s n).entries (st.dirty n live t refl) in omega arith)
          (λ t. h.most n live t);
    }

-- ---- each change

put_nothing : (s : State) (n : ℕ) (m : MemNode) → length s.nodes ≤ n → put_node s n m ≡ s
unfolding put_node with_nodes
put_nothing s n m h = ap (with_nodes s) (set_out s.nodes n m h)

pub light_put : (k : ℕ) (s : State) (n : ℕ) (m : MemNode) → Slight k m → Light k s → Light k (put_node s n m)
light_put k s n m f h =
    by_test (ltb n (length s.nodes))
    (λ t. record { most = put_each (λ i x. Slight k x) s n m (ltb-true n _ t) f (λ i d. h.most i) })
    (λ t. rw (put_nothing s n m (ltb-false n (length s.nodes) t)) h)

pub light_add : (k : ℕ) (s : State) (m : MemNode) → Slight k m → Light k s → Light k (add_node s m)
light_add k s m f h =
    record { most = λ n d. add_each (λ i x. x.dead ≡ false → x.dirty ≡ false → weight x.entries ≤ k) s m f (λ i u e. h.most i) n d d }

pub light_info : (k : ℕ) (s : State) (t : BTreeInfo) → Light k s → Light k (with_info s t)
unfolding with_info node_at
light_info k s t h = record { most = h.most }

pub light_root : (k : ℕ) (s : State) (r : ℕ) → Light k s → Light k (with_root s r)
unfolding with_root node_at
light_root k s r h = record { most = h.most }

slight_changed : (k : ℕ) (m : MemNode) (es : List Entry) → Slight k (changed m es)
unfolding changed
slight_changed k m es d e = never refl e

slight_made : (k l : ℕ) (es : List Entry) → Slight k (made l es)
unfolding made
slight_made k l es d e = never refl e

slight_dead : (k : ℕ) (m : MemNode) → Slight k (marked_dead m)
unfolding marked_dead
slight_dead k m d e = never refl d

slight_dirty : (k : ℕ) (m : MemNode) → Slight k (marked_dirty m)
unfolding marked_dirty
slight_dirty k m = slight_changed k m m.entries

slight_place : (k : ℕ) (m : MemNode) (b i : List ℕ) → Slight k m → Slight k (with_place m b i)
unfolding with_place
slight_place k m b i h = h

slight_level : (k : ℕ) (m : MemNode) (l : ℕ) → Slight k m → Slight k (with_level m l)
unfolding with_level
slight_level k m l h = h

slight_entries : (k : ℕ) (m : MemNode) (es : List Entry) → m.dirty ≡ true → Slight k (with_entries m es)
unfolding with_entries
slight_entries k m es h d e = never h e

pub light_mark : (k : ℕ) (s : State) (n : ℕ) → Light k s → Light k (mark_dirty s n)
unfolding mark_dirty
light_mark k s n h = light_put k s n _ (slight_dirty k (node_at s n)) h

pub light_way : (k : ℕ) (ps : List Step) (s : State) → Light k s → Light k (mark_way ps s)
unfolding mark_way
light_way k [] s h = h
light_way k (x ∷ ps) s h = light_way k ps _ (light_put k s x.slot _ (slight_dirty k (node_at s x.slot)) h)

pub light_touch : (k : ℕ) (ps : List Step) (s : State) → Light k s → Light k (touch ps s)
unfolding touch
light_touch k ps s h =
    pick (Light k) s.virtual (mark_dirty (mark_dirty s s.root) (leaf_of ps)) (mark_way ps s)
    (λ t. light_mark k _ (leaf_of ps) (light_mark k s s.root h)) (λ t. light_way k ps s h)

pub light_index : (k : ℕ) (s : State) (n i c : ℕ) → Light k s → Light k (set_index_key s n i c)
unfolding set_index_key
light_index k s n i c h =
    by_list (node_at s c).entries
    (λ q. rw q h)
    (λ e es q. by_test ((node_at s c).dead || not (ltb i (length (node_at s n).entries)) || same_key (key_at (node_at s n).entries i) e.key)
    (λ t. rw (q, t) h)
    (λ t. rw (q, t) (light_put k s n _ (slight_changed k _ _) h)))

pub light_indexes : (k : ℕ) (ps : List Step) (s : State) → Light k s → Light k (index_keys ps s)
unfolding index_keys
light_indexes k [] s h = h
light_indexes k (x ∷ []) s h = h
light_indexes k (x ∷ y ∷ ps) s h = light_index k _ x.slot x.child y.slot (light_indexes k (y ∷ ps) s h)

pub light_parted : (k : ℕ) (s : State) (n c : ℕ) → Light k s → Light k (parted s n c)
unfolding parted
light_parted k s n c h = light_add k _ _ (slight_made k _ _) (light_put k s n _ (slight_changed k _ _) h)

pub light_link : (k : ℕ) (s : State) (p i r : ℕ) → Light k s → Light k (link_right s p i r)
unfolding link_right
light_link k s p i r h = light_put k s p _ (slight_changed k _ _) h

pub light_grow : (k : ℕ) (s : State) (n r : ℕ) → Light k s → Light k (grow_root s n r)
unfolding grow_root
light_grow k s n r h =
    light_root k _ _ (light_add k _ _ (slight_place k _ _ _ (slight_made k _ _))
    (light_put k s n _ (slight_place k (node_at s n) [] [] (h.most n)) h))

pub light_more : (k : ℕ) (s : State) (n : ℕ) → Light k s → Light k (more_nodes s n)
unfolding more_nodes
light_more k s n h = light_info k s _ h

pub light_cut : (k : ℕ) (l : Lent) (up : List Step) (n : ℕ) (s : State) → length up ≤ 1 → Light k s → Holds (Light k) (cut_node l up n s)
light_cut k l [] n s u h = by_top (Light k) l n s (λ t. h) (λ c live ps z room. light_more k _ 2 (light_grow k _ n _ (light_parted k s n c h)))
light_cut k l (x ∷ []) n s u h = by_cut (Light k) l x n s (λ t. h)
    (λ c live ps room. light_more k _ 1 (light_link k _ x.slot x.child _ (light_parted k s n c h)))
light_cut k l (x ∷ y ∷ up) n s u h = absurd (omega arith)

pub light_cuts : (k : ℕ) (l : Lent) (up ps : List Step) (s : State) → length up ≤ 1 → Light k s → Holds (Light k) (cuts l up ps s)
unfolding cuts
light_cuts k l up [] s u h = holds_ok h
light_cuts k l up (x ∷ ps) s u h =
    holds_bind (cuts l (x ∷ []) ps s) _ λ t e. light_cut k l up x.slot t u ((light_cuts k l (x ∷ []) ps s (omega arith) h).at t e)

-- ---- the leaf, which is dirty by then

mark_is : (s : State) (n : ℕ) → n < length s.nodes → (node_at (mark_dirty s n) n).dirty ≡ true
unfolding mark_dirty marked_dirty changed
mark_is s n h = ap (λ (m : MemNode). m.dirty) (at_put_same s n (marked_dirty (node_at s n)) h)

stays : (s : State) (n c : ℕ) → (c ≡ n → ⊥) → (node_at s c).dirty ≡ true → (node_at (mark_dirty s n) c).dirty ≡ true
unfolding mark_dirty
stays s n c d h = ap (λ (m : MemNode). m.dirty) (at_put_other s n (marked_dirty (node_at s n)) c d) ∙ h

gone : (s : State) (n c : ℕ) → length s.nodes ≤ n → (node_at s c).dirty ≡ true → (node_at (mark_dirty s n) c).dirty ≡ true
unfolding mark_dirty
gone s n c u h = ap (λ (t : State). (node_at t c).dirty) (put_nothing s n (marked_dirty (node_at s n)) u) ∙ h

mark_used_lem : (s : State) (n c : ℕ) → c < length s.nodes → c < length (mark_dirty s n).nodes
unfolding mark_dirty
mark_used_lem s n c h = omega (arith, put_count s n (marked_dirty (node_at s n)))

-- a mark takes none away
mark_stays : (s : State) (n c : ℕ) → (node_at s c).dirty ≡ true → (node_at (mark_dirty s n) c).dirty ≡ true
mark_stays s n c h =
    by_test (ltb n (length s.nodes))
    (λ u. by_test (eqb c n)
    (λ t. let e : c ≡ n = eqb-true c n t in ap (λ (j : ℕ). (node_at (mark_dirty s n) j).dirty) e ∙ mark_is s n (ltb-true n _ u))
    (λ t. stays s n c (eqb-false c n t) h))
    (λ u. gone s n c (ltb-false n (length s.nodes) u) h)

mark_way_stays : (ps : List Step) (s : State) (c : ℕ) → (node_at s c).dirty ≡ true → (node_at (mark_way ps s) c).dirty ≡ true
unfolding mark_way mark_dirty
mark_way_stays [] s c h = h
mark_way_stays (x ∷ ps) s c h = mark_way_stays ps (mark_dirty s x.slot) c (mark_stays s x.slot c h)

mark_way_is : (ps : List Step) (s : State) (c : ℕ) → c < length s.nodes → 1 ≤ on_way c ps → (node_at (mark_way ps s) c).dirty ≡ true
unfolding mark_way mark_dirty
mark_way_is [] s c h g = absurd (omega arith)
mark_way_is (x ∷ ps) s c h g =
    by_test (eqb c x.slot)
    (λ t. let e : c ≡ x.slot = eqb-true c x.slot t in
    mark_way_stays ps (mark_dirty s x.slot) c (ap (λ (j : ℕ). (node_at (mark_dirty s x.slot) j).dirty) e ∙ mark_is s x.slot (omega arith)))
    (λ t. mark_way_is ps (mark_dirty s x.slot) c (omega (arith, put_count s x.slot (marked_dirty (node_at s x.slot))))
    (omega (arith, names_other c x.slot (eqb-false c x.slot t))))

pub touch_leaf : (ps : List Step) (s : State) → leaf_of ps < length s.nodes → 1 ≤ on_way (leaf_of ps) ps
    → (node_at (touch ps s) (leaf_of ps)).dirty ≡ true
unfolding touch
touch_leaf ps s h g =
    pick (λ (u : State). (node_at u (leaf_of ps)).dirty ≡ true) s.virtual (mark_dirty (mark_dirty s s.root) (leaf_of ps)) (mark_way ps s)
    (λ t. mark_is (mark_dirty s s.root) (leaf_of ps) (mark_used_lem s s.root (leaf_of ps) h))
    (λ t. mark_way_is ps s (leaf_of ps) h g)

pub light_leaf : (k : ℕ) (s : State) (n : ℕ) (key : List ℕ) (v : Val) → (node_at s n).dirty ≡ true → Light k s → Light k (put_in_leaf s n key v)
unfolding put_in_leaf
light_leaf k s n key v d h = light_info k _ _ (light_put k s n _ (slight_entries k (node_at s n) _ d) h)

pub light_take : (k : ℕ) (s : State) (n : ℕ) (key : List ℕ) → (node_at s n).dirty ≡ true → Light k s → Light k (take_from_leaf s n key)
unfolding take_from_leaf
light_take k s n key d h = light_put k s n _ (slight_entries k (node_at s n) _ d) h

-- ---- dropped nodes, the root's place

light_one : (k : ℕ) (x : Step) (n : ℕ) (d : Dropped) → Light k d.state → Light k (drop_node x n d).state
unfolding drop_node
light_one k x n d h =
    by_list (node_at d.state n).entries
    (λ q. rw q (light_put k _ x.slot _ (slight_changed k _ _) (light_put k d.state n _ (slight_dead k _) h)))
    (λ e es q. rw q h)

pub light_drop : (k : ℕ) (ps : List Step) (s : State) → Light k s → Light k (drop_emptied ps s).state
unfolding drop_emptied
light_drop k [] s h = h
light_drop k (x ∷ []) s h = h
light_drop k (x ∷ y ∷ ps) s h = light_one k x y.slot (drop_emptied (y ∷ ps) s) (light_drop k (y ∷ ps) s h)

pub light_level : (k : ℕ) (s : State) → Light k s → Light k (leveled_root s)
unfolding leveled_root
light_level k s h =
    by_list (node_at s s.root).entries
    (λ q. rw q (light_put k s s.root _ (slight_level k (node_at s s.root) 0 (h.most s.root)) h))
    (λ e es q. rw q h)

pub light_hand : (k : ℕ) (s : State) (c : ℕ) → Light k s → Light k (handed_down s c)
unfolding handed_down
light_hand k s c h = light_info k _ _ (light_root k _ c (light_put k _ c _ (slight_dirty k _) (light_put k s s.root _ (slight_dead k _) h)))
