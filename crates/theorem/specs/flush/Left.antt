-- Where flush leaves each slot of the tree: its block, its number; the image that it leaves agrees with the first on the old blocks. Assumes nothing.
use Rattle.std.specs.Prelude.{◌≡◌, List, [], ◌∷◌, Bool, false, cond, ◌&&◌, ℕ, ◌+◌, ◌*◌, ◌^◌, ◌≤◌, ◌<◌, length, get_or, leb, ltb}
use Rattle.std.proofs.Math.Path.{refl, ap, subst}
use Rattle.std.proofs.Common.{sym, ◌∙◌, le_refl, arith, leb-true, ltb-true}
use Rattle.std.proofs.Math.Bool.{true}
use Rattle.seal.specs.Bytes.{window, AreBytes}
use Rattle.node.specs.Result.{Result, ok, refused}
use Rattle.node.specs.Entry.{Entry, mem}
use Rattle.node.specs.Slot.{MemNode, only, number_of}
use Rattle.node.specs.laws.base.Tests.{by_test}
use Rattle.tree.specs.Lent.{Lent, blocks, block_at}
use Rattle.tree.specs.State.{State, node_at, no_node}
use Rattle.tree.specs.Load.{address_of}
use Rattle.flush.specs.Space.{Space, is_used}
use Rattle.flush.specs.Flush.{Flushing, slot_number, rewritten, flushed}
use Rattle.history.specs.Walk.{Disk, Walked, moved_to, resolve, walk_from, visits_of, map_blocks}
use Rattle.history.specs.Statement.{Start, Lends, uses, tree_blocks, old_blocks, old_ids, left_by}
use Rattle.theorem.specs.model.Bounds.{Terms}
use Rattle.theorem.specs.model.Lazy.{names, slots}
use Rattle.theorem.specs.model.Good.{found}
use Rattle.theorem.specs.flush.Writes.{Done}
use Rattle.theorem.specs.model.Sums.{sum_one, uses_append, uses_one}
use Rattle.theorem.specs.flush.Ids.{ids_in, first_less, first_apart, moved_none}
use Rattle.theorem.specs.flush.Visits.{Met, met_none, walk_visited}
use Rattle.theorem.specs.flush.Seen.{blocks_more}
use Rattle.theorem.specs.flush.Reached.{at_first, Setting, lent, In}
use Rattle.theorem.specs.flush.Done.{block_old, ids_old, ids_apart, wrote, keeps, moves, ids_small}

-- ---- references

pub resolve_unmoved : (x : Disk) (r : ℕ) → moved_to x.moved r ≡ [] → resolve x r ≡ address_of x.lent x.xid r
unfolding resolve
resolve_unmoved x r h = rw h

pub resolve_moved : (x : Disk) (r a : ℕ) → moved_to x.moved r ≡ a ∷ [] → resolve x r ≡ ok a
unfolding resolve
resolve_moved x r a h = rw h

pub address_plain : (l : Lent) (xid r : ℕ) → l.map ≡ [] → address_of l xid r ≡ ok r
unfolding address_of
address_plain l xid r h = rw h

pub moved_nil : (ms : List (ℕ × ℕ)) (r : ℕ) → ms ≡ [] → moved_to ms r ≡ []
unfolding moved_to
moved_nil ms r h = rw h

-- one head for two lists
pub head_same : (a b : ℕ) (xs : List ℕ) → xs ≡ a ∷ [] → xs ≡ b ∷ [] → a ≡ b
unfolding only
head_same a b xs p q = sym (ap only p) ∙ ap only q

none_of : (xs : List ℕ) → length xs ≡ 0 → xs ≡ []
none_of [] h = refl
none_of (x ∷ xs) h = absurd (omega arith)

-- ---- the disk as it was opened: its blocks lie in the image, its ids are u64

module _ (g : Start) (b : AreBytes g.disk.lent.image) where
  met : (z : Result Walked) → walk_from g.disk g.root ≡ z
      → Met g.disk.lent g.disk.lent g.disk.order g.disk.xid g.disk.xid g.disk.moved g.disk.moved b (le_refl _) refl refl
      (λ r. refl) (visits_of z)
  unfolding visits_of
  met (refused n) e = met_none g.disk.lent g.disk.lent g.disk.order g.disk.xid g.disk.xid g.disk.moved g.disk.moved b
      (le_refl _) refl refl (λ r. refl)
  met (ok w) e = ((walk_visited g.disk.lent g.disk.lent g.disk.order g.disk.xid g.disk.xid g.disk.moved g.disk.moved b
      (le_refl _) refl refl (λ r. refl) g.root).at w e).met

  pub old_inside : (a : ℕ) → 1 ≤ uses a (tree_blocks g) → a < blocks g.disk.lent
  unfolding tree_blocks
  old_inside a h = (met (walk_from g.disk g.root) refl).inside a h

  pub old_small : (i : ℕ) → 1 ≤ uses i (old_ids g) → i < 2 ^ 64
  unfolding old_ids
  old_small i h = (met (walk_from g.disk g.root) refl).small i h

pub tree_old : (g : Start) (a : ℕ) → 1 ≤ uses a (tree_blocks g) → 1 ≤ uses a (old_blocks g)
unfolding old_blocks
tree_old g a h = omega (arith, uses_append a (tree_blocks g) (map_blocks g.disk g.disk.lent.map))

-- ---- what flush leaves

module _ (g : Start) (τ : Terms) (th : List ℕ) (s : State) (es : List Entry) (l : Lent) (p : Space) (xid next : ℕ)
    (k : Setting g τ th s es l p xid next) where
  abbrev W : Flushing
  W = (flushed l p s xid next).after

  abbrev x' : Disk
  x' = left_by g l (flushed l p s xid next)

  abbrev slot : ℕ → MemNode
  slot c = get_or W.nodes c no_node

  abbrev num : ℕ → ℕ
  num = slot_number s.virtual W.nodes

  node_size : s.info.node_size ≡ l.size
  node_size = (lent g τ th s es l p xid next k).node

  pub as_long : length W.image ≡ length l.image
  as_long = (wrote g τ th s es l p xid next k).ready.long ∙ ap (λ (z : ℕ). blocks l * z) node_size ∙ sym (lent g τ th s es l p xid next k).long

  -- a block in use at first is as it was
  pub block_stays : (a : ℕ) → is_used p.bitmap a ≡ true → block_at x'.lent a ≡ block_at l a
  unfolding block_at left_by
  block_stays a t =
      subst (λ (z : ℕ). window (a * z) z W.image ≡ window (a * z) z l.image) node_size (stays a t)
    where
      stays : (a : ℕ) → is_used p.bitmap a ≡ true → window (a * s.info.node_size) s.info.node_size W.image ≡ window
          (a * s.info.node_size) s.info.node_size l.image
      stays a t = unfold at_first in (wrote g τ th s es l p xid next k).stays a t

  agrees : (a : ℕ) → 1 ≤ uses a (old_blocks g) → block_at x'.lent a ≡ block_at g.disk.lent a
  agrees a q = block_stays a (k.lends.marked a q) ∙ k.lends.lends.agrees a q

  pub lends_after : Lends g x'.lent
  unfolding left_by
  lends_after =
      let h = k.lends.lends in
      record {
        same_size = h.same_size;
        same_map = h.same_map;
        same_slots = h.same_slots;
        bytes = (keeps g τ th s es l p xid next k).booked.bytes;
        no_shorter = let n = h.no_shorter in omega (arith, as_long);
        agrees = agrees;
      }

  -- a map is lent to a virtual tree alone
  no_map : s.virtual ≡ false → l.map ≡ []
  no_map v = none_of l.map ((lent g τ th s es l p xid next k).map ∙ rw v)

  map_old : s.virtual ≡ false → g.disk.lent.map ≡ []
  map_old v = sym k.lends.lends.same_map ∙ no_map v

  moved_is : x'.moved ≡ W.moved
  unfolding left_by
  moved_is = refl

  map_is : x'.lent.map ≡ l.map
  unfolding left_by
  map_is = refl

  xid_is : x'.xid ≡ g.disk.xid
  unfolding left_by
  xid_is = refl

  pub resolve_to : (r a : ℕ) → moved_to W.moved r ≡ a ∷ [] → resolve x' r ≡ ok a
  resolve_to r a h = resolve_moved x' r a (ap (λ (z : List (ℕ × ℕ)). moved_to z r) moved_is ∙ h)

  pub resolve_after : (r : ℕ) → s.virtual ≡ false → resolve x' r ≡ ok r
  resolve_after r v = resolve_unmoved x' r (moved_nil x'.moved r (moved_is ∙ (keeps g τ th s es l p xid next k).still v))
      ∙ address_plain x'.lent x'.xid r (map_is ∙ no_map v)

  pub resolve_first : (r : ℕ) → s.virtual ≡ false → resolve g.disk r ≡ ok r
  resolve_first r v = resolve_unmoved g.disk r (moved_nil g.disk.moved r k.begins.unmoved)
      ∙ address_plain g.disk.lent g.disk.xid r (map_old v)

  -- an id that is not moved is resolved as before
  pub resolve_same : (r : ℕ) → moved_to W.moved r ≡ [] → resolve x' r ≡ resolve g.disk r
  resolve_same r h =
      resolve_unmoved x' r (ap (λ (z : List (ℕ × ℕ)). moved_to z r) moved_is ∙ h) ∙ ap (λ (z : ℕ). address_of x'.lent z r) xid_is
      ∙ k.address_same_lem x'.lent lends_after r
      ∙ sym (resolve_unmoved g.disk r (moved_nil g.disk.moved r k.begins.unmoved))

  -- ---- ids

  abbrev ids_after : ℕ → ℕ
  ids_after i = ids_in s xid (blocks l) next W.nodes i

  abbrev ids_before : ℕ → ℕ
  ids_before i = ids_in s xid (blocks l) next s.nodes i

  by_range {ℓ} : {C : Type ℓ} (i : ℕ) → (next ≤ i → i < W.next → ◌≡◌ {A = ℕ} (cond (leb next i && ltb i W.next) 1 0) 1 → C)
      → (◌≡◌ {A = ℕ} (cond (leb next i && ltb i W.next) 1 0) 0 → C) → C
  by_range i f h =
      by_test (leb next i)
      (λ t. by_test (ltb i W.next) (λ u. f (leb-true next i t) (ltb-true i W.next u) (rw (t, u))) (λ u. h (rw (t, u))))
      (λ t. h (rw t))

  ids_one : s.virtual ≡ true → (i : ℕ) → ids_after i ≤ 1
  ids_one v i =
      by_range i
      (λ a b z. omega (arith, (moves g τ th s es l p xid next k v).ids i, ids_apart g τ th s es l p xid next k v i a b))
      (λ z. omega (
        arith,
        (moves g τ th s es l p xid next k v).ids i,
        ids_old g τ th s es l p xid next k v i,
        k.ids_once
            (sym k.good.virtual ∙ v) i,
      ))

  -- an id after is an old one, or one that was given
  id_small : s.virtual ≡ true → (i : ℕ) → 1 ≤ ids_after i → i < 2 ^ 64
  id_small v i h =
      by_range i
      (λ a b z. let m = ids_small g τ th s es l p xid next k in omega arith)
      (λ z. old_small g k.begins.bytes i (omega (arith, (moves g τ th s es l p xid next k v).ids i, ids_old g τ th s es l p xid next k v i)))

  -- the id of a slot that was not written is not moved
  pub clean_unmoved : s.virtual ≡ true → (c i : ℕ) → In g τ th s es l p xid next k c → (node_at s c).dirty ≡ false → (slot c).id ≡ i ∷ []
      → moved_to W.moved i ≡ []
  clean_unmoved v c i inn f e =
      let h = first_apart s xid (blocks l) next W (moves g τ th s es l p xid next k v) c inn.used inn.live (rw f) i in
      let o : uses i (slot c).id ≡ 1 = ap (uses i) e ∙ uses_one i in
      moved_none W.moved i (omega (arith, h, o, ids_one v i))

  -- nor is an old id that no slot had
  pub old_unmoved : s.virtual ≡ true → (i : ℕ) → 1 ≤ uses i (old_ids g) → ids_before i ≡ 0 → moved_to W.moved i ≡ []
  old_unmoved v i old none =
      moved_none W.moved i
      (by_range i
      (λ a b z. absurd (omega (arith, k.lends.unused (sym k.good.virtual ∙ v) i a b)))
      (λ z. omega (arith, first_less s xid (blocks l) next W (moves g τ th s es l p xid next k v) i, (moves g τ th s es l p xid next k v).ids i)))

  -- ---- each slot

  -- its block and its number
  pub record Final (c : ℕ) : Type 0 where
    pub address : ℕ
    pub block : (get_or (flushed l p s xid next).after.nodes c no_node).block ≡ address ∷ []
    pub inside : address < blocks l
    pub named : s.virtual ≡ true → (get_or (flushed l p s xid next).after.nodes c no_node).id ≡ slot_number s.virtual
        (flushed l p s xid next).after.nodes c ∷ []
    pub number : s.virtual ≡ false → slot_number s.virtual (flushed l p s xid next).after.nodes c ≡ address
    pub small : slot_number s.virtual (flushed l p s xid next).after.nodes c < 2 ^ 64

  pub number_id : (c i : ℕ) → s.virtual ≡ true → (slot c).id ≡ i ∷ [] → num c ≡ i
  unfolding slot_number number_of only
  number_id c i v e = ap (λ (b : Bool). only (cond b (slot c).id (slot c).block)) v ∙ ap only e

  pub number_block : (c a : ℕ) → s.virtual ≡ false → (slot c).block ≡ a ∷ [] → num c ≡ a
  unfolding slot_number number_of only
  number_block c a v e = ap (λ (b : Bool). only (cond b (slot c).id (slot c).block)) v ∙ ap only e

  final_of : (c a : ℕ) → In g τ th s es l p xid next k c → (slot c).block ≡ a ∷ [] → a < blocks l
      → (s.virtual ≡ true → (i : ℕ) × ((slot c).id ≡ i ∷ [])) → Final c
  final_of c a inn e lt name =
      record {
        address = a;
        block = e;
        inside = lt;
        named = λ v. let (i, q) = name v in q ∙ ap (λ (z : ℕ). z ∷ []) (sym (number_id c i v q));
        number = λ v. number_block c a v e;
        small = by_test s.virtual
            (λ v.
            let (i, q) = name v in
            let f : ℕ → ℕ = λ d. cond (node_at s d).dead 0 (uses i (slot d).id) in
            let fc : f c ≡ 1 = rw inn.live (ap (uses i) q ∙ uses_one i) in
            let m = id_small v i (omega (arith, sum_one f (length s.nodes) c inn.used, fc)) in
            omega (arith, number_id c i v q))
            (λ v. let m = (lent g τ th s es l p xid next k).few in omega (arith, number_block c a v e));
      }

  abbrev Reaches : ℕ → Type 0
  Reaches c = 1 ≤ names c (mem s.root) + slots (found g τ) (node_at s) k.good.level c (node_at s s.root)

  pub done : (c : ℕ) → Reaches c → Done s xid (blocks l) W c
  done c h = (wrote g τ th s es l p xid next k).done c h

  pub new_block : (c a : ℕ) (i : List ℕ) → (rewritten (node_at s c) a i).block ≡ a ∷ []
  unfolding rewritten
  new_block c a i = refl

  new_clean : (c a : ℕ) (i : List ℕ) → (rewritten (node_at s c) a i).dirty ≡ false
  unfolding rewritten
  new_clean c a i = refl

  pub final : (c : ℕ) → Reaches c → In g τ th s es l p xid next k c → Final c
  final c h inn =
      by_test (node_at s c).dirty
      (λ t.
      let w = (done c h).written t in
      let b : (slot c).block ≡ w.address ∷ [] = ap (λ (m : MemNode). m.block) w.node ∙ new_block c w.address w.id in
      let f : (slot c).dirty ≡ false = ap (λ (m : MemNode). m.dirty) w.node ∙ new_clean c w.address w.id in
      final_of c w.address inn b w.inside (λ v. let y = (moves g τ th s es l p xid next k v).lies c inn.used t f in (y.id, y.named)))
      (λ t.
      let e : slot c ≡ node_at s c = (done c h).same t in
      let q = inn.slot.clean t in
      let b : (slot c).block ≡ q.address ∷ [] = ap (λ (m : MemNode). m.block) e ∙ q.block in
      let o : 1 ≤ uses q.address (node_at s c).block = let z : uses q.address (node_at s c).block ≡ 1 = ap (uses q.address) q.block
      ∙ uses_one q.address in omega arith in
      let i = old_inside g k.begins.bytes q.address (block_old g τ th s es l p xid next k c inn q.address o) in
      final_of c q.address inn b (omega (arith, more))
      (λ v. (q.found.node.oid, ap (λ (m : MemNode). m.id) e ∙ q.id ∙ rw v)))
    where
      more : blocks g.disk.lent ≤ blocks l
      more = blocks_more g.disk.lent l k.lends.lends.same_size k.lends.lends.no_shorter
