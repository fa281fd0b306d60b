-- Every accepted call that starts with at most two blocks' worth of records in each slot leaves at most that much. Assumes nothing.
use Rattle.std.specs.Prelude.{◌≡◌, refl, cond, ◌&&◌, ◌||◌, drop}
use Rattle.std.proofs.Common.{sym, ap, subst, le_trans, arith, length-take}
use mathlib.Core.List.{List, [], ◌∷◌}
use Rattle.std.proofs.Math.Bool.{true, not}
use Prim.Native.Nat.{ℕ, zero, suc, ◌+◌, ◌-◌, ◌*◌, ◌^◌, ◌≤◌, ◌<◌}
use Rattle.std.proofs.Math.Nat.{min-le_left}
use Rattle.std.proofs.Math.ListN.{length}
use Rattle.std.proofs.Math.Dec.{leb, ltb}
use Rattle.node.specs.Bytes.{window}
use Rattle.node.specs.Result.{Result, ok}
use Rattle.node.specs.Refusals as refusal
use Rattle.node.specs.Order.{pair_key, less}
use Rattle.node.specs.Entry.{Entry, Val, disk, mem, value_length}
use Rattle.node.specs.Find.{key_at, val_at, way_index, is_there}
use Rattle.node.specs.Fit.{fits}
use Rattle.node.specs.Cut.{entry_size, size}
use Rattle.node.specs.Read.{OnDisk, on_disk, parsed, is_fixed, entries_from, read_node}
use Rattle.node.specs.internal.ReadSteps.{Sound}
use Rattle.node.specs.Slot.{with_value}
use Rattle.node.specs.declared.read.Node.{Node}
use Rattle.node.specs.Place.{Place}
use Rattle.node.specs.laws.base.Tests.{by_test}
use Rattle.node.specs.laws.base.Results.{Holds, holds_ok, holds_bind, holds_check, checked_ok}
use Rattle.node.specs.laws.read.Loaded.{entries_length}
use Rattle.node.specs.laws.read.Accepted.{read_accepts, read_is, size_from}
use Rattle.tree.specs.Lent.{Lent, block_at, in_image}
use Rattle.tree.specs.State.{State, node_at, put_node, with_entries}
use Rattle.tree.specs.Load.{Bounds, unbounded, bound_key, child_bounds, load_block, adopted, load_child}
use Rattle.tree.specs.Lookup.{Step, Way, above, way_from, way, leaf_of, Got, last_from, floor_from, range_enters, range_kids, range_from}
use Rattle.tree.specs.Edit.{touch}
use Rattle.tree.specs.Upsert.{upsert_on, entry_fits, upserted}
use Rattle.tree.specs.Remove.{Dropped, drop_emptied, handed_down, has_only_child, root_taken, hand_down, take_from_leaf, shrunk_on, remove_on, removed}
use Rattle.tree.specs.Omap.{versions_end, remove_all, dropped}
use Rattle.tree.specs.Trust.{trusted}
use Rattle.tree.specs.laws.state.Load.{by_load, brought}
use Rattle.tree.specs.laws.trust.Named.{live_used}
use Rattle.tree.specs.laws.trust.Stands.{all, trusted_of}
use Rattle.tree.specs.laws.trust.Loads.{by_list, holds_cond, way_root, trusted_way, loaded_trusted, range_loaded}
use Rattle.tree.specs.laws.trust.Edit.{leaf_on, down_leaf, on_way}
use Rattle.tree.specs.laws.trust.Upsert.{sizes_most, trusted_upsert}
use Rattle.tree.specs.laws.trust.Remove.{trusted_remove}
use Rattle.tree.specs.laws.room.Weight.{weight, weight_cons, weight_same}
use Rattle.tree.specs.internal.Room.{Roomy}
use Rattle.tree.specs.laws.room.Room.{Light, roomy_light, light_roomy, light_put, light_add, light_info, light_touch, light_indexes}
use Rattle.tree.specs.laws.room.Room.{light_cuts, touch_leaf, light_leaf, light_take, light_drop, light_level, light_hand}

-- ---- a node that was read

pub weight_size : (es : List Entry) → weight es + 4 * length es ≡ size es
unfolding size entry_size Rattle.node.specs.Records.records_of
weight_size [] = refl
weight_size (e ∷ es) = let k = weight_size es in omega (arith, weight_cons e es)

few_entries : (v : Node) (n : ℕ) → v.toc + v.nkeys * cond (is_fixed v) 4 8 ≤ n → 4 * v.nkeys ≤ n
few_entries v n h =
    by_test (is_fixed v)
    (λ t. let k : v.toc + v.nkeys * 4 ≤ n = rw t at h in omega arith)
    (λ t. let k : v.toc + v.nkeys * 8 ≤ n = rw t at h in omega arith)

sound_weight : (v : Node) (b : List ℕ) → Sound v b → weight (entries_from v b 0 v.nkeys) ≤ 2 * length b
sound_weight v b h =
    let es : List Entry = entries_from v b 0 v.nkeys in
    let k : 4 * v.nkeys ≤ length b = few_entries v (length b) (le_trans h.laid.contents (le_trans h.laid.keys_end h.laid.vals_end)) in
    omega (arith, weight_size es, size_from v b 0 v.nkeys h.held, entries_length v b 0 v.nkeys, h.sum)

-- a node that loads takes at most two blocks' worth
pub read_weight : (o : ℕ) (p : Place) (lower upper b : List ℕ) (d : OnDisk) → length b ≤ 65536 → read_node o p lower upper b ≡ ok d
    → weight d.entries ≤ 2 * length b
unfolding on_disk
read_weight o p lower upper b d small e =
    let k = sound_weight (parsed p b) b (read_accepts o p lower upper b small d e).sound in
    let q : on_disk (parsed p b) b ≡ d = read_is o p lower upper b small d e in
    subst (λ (x : OnDisk). weight x.entries ≤ 2 * length b) q k

block_length : (l : Lent) (a : ℕ) → length (block_at l a) ≤ l.size
unfolding block_at window
block_length l a = rw (length-take l.size (drop (a * l.size) l.image)) (min-le_left _ _)

pub block_weight : (l : Lent) (o : ℕ) (p : Place) (bs : Bounds) (a : ℕ) (d : OnDisk) → l.size ≤ 65536 → load_block l o p bs a ≡ ok d
    → weight d.entries ≤ 2 * l.size
unfolding load_block
block_weight l o p bs a d small e =
    let (i, z) = checked_ok refusal.address (in_image l a) (read_node o p (bound_key bs.lower) (bound_key bs.upper) (block_at l a)) d e in
    let n = block_length l a in
    let k = read_weight o p (bound_key bs.lower) (bound_key bs.upper) (block_at l a) d (le_trans n small) z in
    omega arith

-- ---- loads

module _ (l : Lent) (small : l.size ≤ 65536) where
  abbrev room : ℕ
  room = 2 * l.size

  light_brought : (s : State) (n i r b : ℕ) (d : OnDisk) → val_at (node_at s n).entries i ≡ disk r → weight d.entries ≤ room → Light room s
      → Light room (brought s n i d b).state
  unfolding adopted with_entries value_length
  light_brought s n i r b d q k h =
      let c : ℕ = length s.nodes in
      light_add room (put_node s n (with_entries (node_at s n) (with_value i (mem c) (node_at s n).entries))) (adopted s.virtual b d) (λ x y. k)
      (light_put room s n _ (λ x y. let z = h.most n x y in omega (arith, weight_same i (mem c) (node_at s n).entries (sym (ap value_length q)))) h)

  pub light_load : (s : State) (bs : Bounds) (n i : ℕ) → Light room s → Holds (λ a. Light room a.state) (load_child l s bs n i)
  light_load s bs n i h =
      record {
        at = λ a e. by_load l s bs n i a e
            (λ c q p. rw p h)
            (λ r d b q x y z p. rw p (light_brought s n i r b d q (block_weight l _ _ _ b d small z) h));
      }

  pub light_way : (d : ℕ) (s : State) (bs : Bounds) (n : ℕ) (k : List ℕ) → Light room s → Holds (λ x. Light room x.state) (way_from d l s bs n k)
  unfolding way_from above
  light_way zero s bs n k h = holds_ok h
  light_way (suc d) s bs n k h =
      let i : ℕ = way_index s.order k (node_at s n).entries in
      let cs : Bounds = child_bounds s.order bs (node_at s n).entries i in
      holds_bind (load_child l s bs n i) _ λ a e.
      holds_bind (way_from d l a.state cs a.slot k) _ λ x f.
      holds_ok ((light_way d a.state cs a.slot k ((light_load s bs n i h).at a e)).at x f)

  pub light_kids : (f : State → Bounds → ℕ → Result (Got Entry))
      → ((s : State) (bs : Bounds) (n : ℕ) → Light room s → Holds (λ g. Light room g.state) (f s bs n))
      → (s : State) (bs : Bounds) (n : ℕ) (lo : List ℕ) (hi : List (List ℕ)) (m i : ℕ) → Light room s
      → Holds (λ g. Light room g.state) (range_kids f l s bs n lo hi m i)
  unfolding range_kids
  light_kids f r s bs n lo hi zero i h = holds_ok h
  light_kids f r s bs n lo hi (suc m) i h =
      let es : List Entry = (node_at s n).entries in
      holds_cond (range_enters s.order lo hi es i) _ _
      (λ t.
      holds_bind (load_child l s bs n i) _ λ a e.
      holds_bind (f a.state (child_bounds s.order bs es i) a.slot) _ λ g y.
      let q = (r a.state (child_bounds s.order bs es i) a.slot ((light_load s bs n i h).at a e)).at g y in
      holds_bind (range_kids f l g.state bs n lo hi m (suc i)) _ λ u z.
      holds_ok ((light_kids f r g.state bs n lo hi m (suc i) q).at u z))
      (λ t. light_kids f r s bs n lo hi m (suc i) h)

  pub light_range : (d : ℕ) (lo : List ℕ) (hi : List (List ℕ)) (s : State) (bs : Bounds) (n : ℕ) → Light room s
      → Holds (λ g. Light room g.state) (range_from d l lo hi s bs n)
  unfolding range_from
  light_range zero lo hi s bs n h = holds_ok h
  light_range (suc d) lo hi s bs n h = light_kids (range_from d l lo hi) (λ t cs m k. light_range d lo hi t cs m k) s bs n lo hi
      (length (node_at s n).entries) 0 h

  pub light_last : (d : ℕ) (s : State) (bs : Bounds) (n : ℕ) → Light room s → Holds (λ g. Light room g.state) (last_from d l s bs n)
  unfolding last_from
  light_last zero s bs n h = holds_ok h
  light_last (suc d) s bs n h =
      let i : ℕ = length (node_at s n).entries - 1 in
      holds_bind (load_child l s bs n i) _ λ a e.
      light_last d a.state (child_bounds s.order bs (node_at s n).entries i) a.slot ((light_load s bs n i h).at a e)

  pub light_floor : (d : ℕ) (s : State) (bs : Bounds) (n : ℕ) (k : List ℕ) → Light room s
      → Holds (λ g. Light room g.state) (floor_from d l s bs n k)
  unfolding floor_from
  light_floor zero s bs n k h = holds_ok h
  light_floor (suc d) s bs n k h =
      let es : List Entry = (node_at s n).entries in
      let i : ℕ = way_index s.order k es in
      let cs : Bounds = child_bounds s.order bs es i in
      let ls : Bounds = child_bounds s.order bs es (i - 1) in
      holds_bind (load_child l s bs n i) _ λ a e.
      holds_bind (floor_from d l a.state cs a.slot k) _ λ g f.
      let q : Light room g.state = (light_floor d a.state cs a.slot k ((light_load s bs n i h).at a e)).at g f in
      by_list g.answer
      (λ z. rw z (holds_cond (ltb 0 i && not (less s.order k (key_at es i))) _ _
      (λ t. holds_bind (load_child l g.state bs n (i - 1)) _ λ b y. light_last d b.state ls b.slot
      ((light_load g.state bs n (i - 1) q).at b y))
      (λ t. holds_ok q)))
      (λ x xs z. rw z (holds_ok q))

  light_handed : (n : ℕ) (s : State) → Light room s → Holds (Light room) (hand_down n l s)
  unfolding hand_down root_taken
  light_handed zero s h = holds_ok h
  light_handed (suc n) s h =
      holds_cond (has_only_child s) _ _
      (λ t. holds_bind (load_child l s unbounded s.root 0) _ λ a e.
      let k = (light_load s unbounded s.root 0 h).at a e in
      holds_cond (fits a.state.info true (node_at a.state a.slot).level (node_at a.state a.slot).entries) _ _
      (λ f. holds_check refusal.count (ltb 0 a.state.info.node_count) (hand_down n l (handed_down a.state a.slot)) λ z. light_handed n _
      (light_hand room a.state a.slot k))
      (λ f. holds_ok k))
      (λ t. holds_ok h)

  -- ---- edits, on a way whose leaf is in use

  light_upsert : (k : List ℕ) (v : Val) (w : Way) → leaf_of w.steps < length w.state.nodes → 1 ≤ on_way (leaf_of w.steps) w.steps
      → Light room w.state → Holds (Light room) (upsert_on l k v w)
  unfolding upsert_on
  light_upsert k v w used on h =
      let s : State = w.state in
      let n : ℕ = leaf_of w.steps in
      holds_check refusal.count (is_there s.order k (node_at s n).entries || ltb s.info.key_count (2 ^ 64 - 1)) _ λ z.
      light_cuts room l [] w.steps _ (omega arith) (light_indexes room w.steps _
      (light_leaf room (touch w.steps s) n k v (touch_leaf w.steps s used on) (light_touch room w.steps s h)))

  light_shrunk : (k : List ℕ) (w : Way) → leaf_of w.steps < length w.state.nodes → 1 ≤ on_way (leaf_of w.steps) w.steps
      → Light room w.state → Holds (Light room) (shrunk_on l k w)
  unfolding shrunk_on
  light_shrunk k w used on h =
      let s : State = w.state in
      let n : ℕ = leaf_of w.steps in
      let d : Dropped = drop_emptied w.steps (take_from_leaf (touch w.steps s) n k) in
      holds_check refusal.count (ltb 0 s.info.key_count && leb d.nodes s.info.node_count) _ λ z.
      light_cuts room l [] w.steps _ (omega arith) (light_indexes room w.steps _ (light_level room _ (light_info room d.state _
      (light_drop room w.steps _ (light_take room (touch w.steps s) n k (touch_leaf w.steps s used on) (light_touch room w.steps s h))))))

  light_remove : (k : List ℕ) (w : Way) → leaf_of w.steps < length w.state.nodes → 1 ≤ on_way (leaf_of w.steps) w.steps
      → Light room w.state → Holds (Light room) (remove_on l k w)
  unfolding remove_on
  light_remove k w used on h = holds_bind (shrunk_on l k w) _ λ t e. light_handed _ t ((light_shrunk k w used on h).at t e)

-- ---- the calls

-- trusted slots: what is dirty fits
pub trusted_roomy : (l : Lent) (s : State) → trusted l s ≡ true → Light (2 * l.size) s → Roomy (2 * l.size) s
trusted_roomy l s h k =
    let (held, st) = trusted_of l s h in
    let q : s.info.node_size ≡ l.size = held.node in
    subst (λ (n : ℕ). Roomy (2 * n) s) q (light_roomy s st (subst (λ (n : ℕ). Light (2 * n) s) (sym q) k))

pub trusted_small : (l : Lent) (s : State) → trusted l s ≡ true → l.size ≤ 65536
trusted_small l s h = sizes_most l (trusted_of l s h).0.sizes

way_light : (l : Lent) (s : State) (k : List ℕ) → trusted l s ≡ true → Light (2 * l.size) s → Holds (λ x. Light (2 * l.size) x.state) (way l s k)
unfolding way
way_light l s k h r = light_way l (trusted_small l s h) (node_at s s.root).level s unbounded s.root k r

-- the leaf of a way is in use and on it
way_end : (l : Lent) (s : State) (k : List ℕ) (w : Way) → trusted l s ≡ true → way l s k ≡ ok w
    → (leaf_of w.steps < length w.state.nodes) × (1 ≤ on_way (leaf_of w.steps) w.steps)
way_end l s k w h e =
    let r = (way_root l s k (trusted_of l s h).1).at w e in
    let (live, lv) = down_leaf w.state w.steps r.down in (
      live_used w.state (leaf_of w.steps) live,
      subst (λ (ps : List Step). 1 ≤ on_way (leaf_of ps) ps) (sym r.steps)
          (leaf_on r.top r.rest),
    )

pub roomy_way : (l : Lent) (s : State) (k : List ℕ) → trusted l s ≡ true → Roomy (2 * l.size) s
    → Holds (λ x. Roomy (2 * l.size) x.state) (way l s k)
roomy_way l s k h r = record { at = λ x e. trusted_roomy l x.state ((trusted_way l s k h).at x e) ((way_light l s k h (roomy_light _ s r)).at x e) }

upserted_light : (l : Lent) (s : State) (k : List ℕ) (v : Val) → trusted l s ≡ true → Light (2 * l.size) s
    → Holds (Light (2 * l.size)) (upserted l s k v)
unfolding upserted
upserted_light l s k v h r =
    holds_bind (way l s k) (upsert_on l k v) λ w e.
    let (used, on) = way_end l s k w h e in
    light_upsert l (trusted_small l s h) k v w used on ((way_light l s k h r).at w e)

pub roomy_upsert : (l : Lent) (s : State) (k : List ℕ) (v : Val) → trusted l s ≡ true → entry_fits s k v ≡ true → Roomy (2 * l.size) s
    → Holds (Roomy (2 * l.size)) (upserted l s k v)
roomy_upsert l s k v h f r = record {
  at = λ u e. trusted_roomy l u ((trusted_upsert l s k v h f).at u e)
      ((upserted_light l s k v h (roomy_light _ s r)).at u e);
}

removed_light : (l : Lent) (s : State) (k : List ℕ) → trusted l s ≡ true → Light (2 * l.size) s
    → Holds (λ x. Light (2 * l.size) x.state) (removed l s k)
unfolding removed
removed_light l s k h r =
    holds_bind (way l s k) _ λ w e.
    let (used, on) = way_end l s k w h e in
    let lw = (way_light l s k h r).at w e in
    holds_cond (is_there s.order k (node_at w.state (leaf_of w.steps)).entries) _ _
    (λ t. holds_bind (remove_on l k w) _ λ u q. holds_ok ((light_remove l (trusted_small l s h) k w used on lw).at u q))
    (λ t. holds_ok lw)

pub roomy_remove : (l : Lent) (s : State) (k : List ℕ) → trusted l s ≡ true → Roomy (2 * l.size) s
    → Holds (λ x. Roomy (2 * l.size) x.state) (removed l s k)
roomy_remove l s k h r = record {
  at = λ u e. trusted_roomy l u.state ((trusted_remove l s k h).at u e)
      ((removed_light l s k h (roomy_light _ s r)).at u e);
}

pub roomy_range : (l : Lent) (lo : List ℕ) (hi : List (List ℕ)) (s : State) → trusted l s ≡ true → Roomy (2 * l.size) s
    → Holds (λ g. Roomy (2 * l.size) g.state) (range_from (node_at s s.root).level l lo hi s unbounded s.root)
roomy_range l lo hi s h r =
    let d : ℕ = (node_at s s.root).level in
    record {
      at = λ g e. trusted_roomy l g.state (loaded_trusted l s g.state h
          ((range_loaded d l all all lo hi s unbounded s.root (trusted_of l s h).1).at g e))
          ((light_range l (trusted_small l s h) d lo hi s unbounded s.root (roomy_light _ s r)).at g e);
    }

-- also between the removes of a drop
pub roomy_removes : (l : Lent) (es : List Entry) (s : State) → trusted l s ≡ true → Roomy (2 * l.size) s
    → Holds (Roomy (2 * l.size)) (remove_all l es s)
unfolding remove_all
roomy_removes l [] s h r = holds_ok r
roomy_removes l (e ∷ es) s h r =
    holds_bind (removed l s e.key) _ λ x q. roomy_removes l es x.state ((trusted_remove l s e.key h).at x q)
    ((roomy_remove l s e.key h r).at x q)

pub roomy_drop : (l : Lent) (s : State) (id : ℕ) → trusted l s ≡ true → Roomy (2 * l.size) s → Holds (Roomy (2 * l.size)) (dropped l s id)
unfolding dropped
roomy_drop l s id h r =
    let d : ℕ = (node_at s s.root).level in
    holds_bind (range_from d l (pair_key id 0) (versions_end id) s unbounded s.root) _ λ g e.
    roomy_removes l g.answer g.state (loaded_trusted l s g.state h
    ((range_loaded d l all all (pair_key id 0) (versions_end id) s unbounded s.root (trusted_of l s h).1).at g e))
    ((roomy_range l (pair_key id 0) (versions_end id) s h r).at g e)
