-- What open accepts holds together: no call after it is refused with 1 for its slots. Assumes nothing.
use Rattle.std.specs.Prelude.{◌≡◌, List, [], ◌∷◌, ◌&&◌, ◌||◌, ℕ, zero, suc, ◌+◌, ◌-◌, ◌*◌, ◌%◌, ◌^◌, ◌≤◌, ◌<◌, length, ltb}
use Rattle.std.proofs.Math.Path.{refl, ap}
use Rattle.std.proofs.Common.{sym, ◌∙◌, arith, leb-true, leb-false, lt-ltb, eq-eqb}
use Rattle.std.proofs.Math.Bool.{Bool, true, false, cond, not}
use Rattle.std.proofs.Math.Dec.{leb, eqb}
use Rattle.node.specs.Bytes.{window, field_at, AreBytes}
use Rattle.node.specs.laws.base.Bytes.{Bytes, bytes_window, field_below}
use Rattle.node.specs.Result.{Result, ok, ◌>>=◌, ◌>>◌, check}
use Rattle.node.specs.Refusals as refusal
use Rattle.node.specs.Order.{keyed, known}
use Rattle.node.specs.Entry.{Entry, rising, every}
use Rattle.node.specs.Fit.{data_space, fixed}
use Rattle.node.specs.Read.{OnDisk, on_disk, info_at, parsed, is_fixed, flags_hold, layout_holds, span_at, spans_hold, spans_length, entries_hold, entry_at, entries_from, keys_rise, keys_within, keys_hold, read_node}
use Rattle.node.specs.Slot.{MemNode, is_child, suit}
use Rattle.node.specs.declared.read.Node.{Node}
use Rattle.tree.specs.laws.base.Node.{by_test, never, and_split, and_left, and_right, and_both, bind_ok, checked_ok}
use Rattle.tree.specs.Lent.{Lent, is_size, blocks, sizes_hold, block_at, in_image}
use Rattle.tree.specs.State.{State, node_at}
use Rattle.tree.specs.Hold.{key_fits, value_fits, child_holds, stands_on_disk, node_stands, node_holds, every_live, naming, named, named_once, hold_together, info_holds, numbers_hold, lent_holds}
use Rattle.tree.specs.Load.{unbounded, bound_key, load_block, root_place, storage_class, root_holds, address_of, adopted}
use Rattle.tree.specs.Lookup.{opened_at, opened}
use Rattle.node.specs.laws.read.Loaded.{Passed, read_passed, entries_length, entries_every, Held, span_held, span_fixed, entry_key, by_value}

-- ---- the entries of a node read, under a tree's fixed lengths

module _ (s : State) (v : Node) (b : List ℕ) (ks : v.ksize ≡ s.info.key_size) (vs : v.vsize ≡ s.info.val_size) where
  -- fixed in the tree: fixed in the node
  fixed_node : fixed s.info ≡ true → is_fixed v ≡ true
  unfolding fixed is_fixed
  fixed_node f =
      by_test (eqb s.info.key_size 0)
      (λ t. let g : false ≡ true = ap (λ (z : Bool). cond z false true) (sym t) ∙ f in never g refl)
      (λ t. ap (λ (z : ℕ). not (eqb z 0)) ks ∙ ap not t)

  key_lengths : (i : ℕ) → Held v (length b) (span_at v b i) → not (fixed s.info) || eqb (length (entry_at v b i).key) s.info.key_size ≡ true
  key_lengths i h =
      by_test (fixed s.info)
      (λ t. rw t (eq-eqb (length (entry_at v b i).key) s.info.key_size (entry_key v b i h ∙ (span_fixed v b i (fixed_node t)).0 ∙ ks)))
      (λ t. rw t)

  value_lengths : (i : ℕ) (x : List ℕ) → eqb v.level 0 ≡ true → length x ≡ (span_at v b i).vlen → not (fixed s.info) || eqb (length x)
      s.info.val_size ≡ true
  value_lengths i x z q =
      by_test (fixed s.info)
      (λ t. rw t (eq-eqb (length x) s.info.val_size (q ∙ (span_fixed v b i (fixed_node t)).1 z ∙ vs)))
      (λ t. rw t)

  -- each entry's key has the fixed length, and its value suits the level
  abbrev pub sound : Entry → Bool
  sound e =
      (not (fixed s.info) || eqb (length e.key) s.info.key_size)
      && (value_fits s e.value && suit (eqb v.level 0) e && child_holds s v.level e.value)

  pub entry_sound : (i : ℕ) → Held v (length b) (span_at v b i) → sound (entry_at v b i) ≡ true
  unfolding value_fits suit is_child child_holds
  entry_sound i h =
      and_both
      (not (fixed s.info) || eqb (length (entry_at v b i).key) s.info.key_size)
      (value_fits s (entry_at v b i).value && suit (eqb v.level 0) (entry_at v b i) && child_holds s v.level (entry_at v b i).value)
      (key_lengths i h)
      (by_value v b i h
      (λ z q. rw (q, z))
      (λ x z l q. rw (q, z, value_lengths i x z l))
      (λ r z q. rw (q, z)))

  pub all_sound : (i n : ℕ) → spans_hold v b i n ≡ true → every sound (entries_from v b i n) ≡ true
  all_sound i n h = entries_every sound v b (λ j q. entry_sound j (span_held v (length b) (span_at v b j) q)) i n h

-- a key that is one of the order and has the fixed length fits
fit_join : (s : State) (lv : ℕ) (e : Entry) → keyed s.order e.key ≡ true
    → (not (fixed s.info) || eqb (length e.key) s.info.key_size)
    && (value_fits s e.value && suit (eqb lv 0) e && child_holds s lv e.value) ≡ true
    → key_fits s e.key && value_fits s e.value && suit (eqb lv 0) e && child_holds s lv e.value ≡ true
unfolding key_fits
fit_join s lv e k h =
    let (a, b) = and_split (not (fixed s.info) || eqb (length e.key) s.info.key_size)
    (value_fits s e.value && suit (eqb lv 0) e && child_holds s lv e.value) h in
    let (c, d) = and_split (value_fits s e.value && suit (eqb lv 0) e) (child_holds s lv e.value) b in
    let (f, g) = and_split (value_fits s e.value) (suit (eqb lv 0) e) c in
    rw (k, a, f, g, d)

every_join : (t u w : Entry → Bool) (es : List Entry) → ((e : Entry) → t e ≡ true → u e ≡ true → w e ≡ true) → every t es ≡ true → every u es ≡ true
    → every w es ≡ true
unfolding every
every_join t u w [] f h k = refl
every_join t u w (e ∷ es) f h k =
    let (a, b) = and_split (t e) (every t es) h in
    let (c, d) = and_split (u e) (every u es) k in
    and_both (w e) (every w es) (f e a c) (every_join t u w es f b d)

-- a node read names no slot
naming_none : (c : ℕ) (v : Node) (b : List ℕ) (i n : ℕ) → spans_hold v b i n ≡ true → naming c (entries_from v b i n) ≡ 0
unfolding naming entries_from spans_hold
naming_none c v b i zero h = refl
naming_none c v b i (suc n) h =
    let (p, q) = and_split _ (spans_hold v b (suc i) n) h in
    let j : naming c (entries_from v b (suc i) n) ≡ 0 = naming_none c v b (suc i) n q in
    by_value v b i (span_held v (length b) (span_at v b i) p)
    (λ z e. rw e (omega arith))
    (λ x z l e. rw e (omega arith))
    (λ r z e. rw e (omega arith))

-- ---- open

-- what an accepted open passed
pub record Opens (l : Lent) (r order xid : ℕ) (s : State) : Type 0 where
  pub address : ℕ
  pub found : OnDisk
  pub at : address_of l xid r ≡ ok address
  pub reads : load_block l order (root_place r) unbounded address ≡ ok found
  pub sizes : sizes_hold l && known order && leb (length l.map) 1 ≡ true
  pub passes : Passed order (root_place r) (bound_key unbounded.lower) (bound_key unbounded.upper) (block_at l address) found
  pub rooted : root_holds l address (leb 1 (length l.map)) found ≡ true
  pub state : s ≡ opened_at l order xid address found

pub open_opens : (l : Lent) (r order xid : ℕ) (s : State) → opened l r order xid ≡ ok s → Opens l r order xid s
unfolding opened load_block
open_opens l r order xid s e =
    let root : ℕ → OnDisk → Result State = λ a d. check refusal.root (root_holds l a (leb 1 (length l.map)) d) >> ok (opened_at l order xid a d) in
    let read : ℕ → Result State = λ a. load_block l order (root_place r) unbounded a >>= root a in
    let (t, p) = checked_ok refusal.lent (sizes_hold l && known order && leb (length l.map) 1) (address_of l xid r >>= read) s e in
    let (a, w, u) = bind_ok (address_of l xid r) read s p in
    let (d, x, y) = bind_ok (load_block l order (root_place r) unbounded a) (root a) s u in
    let (i, z) = checked_ok refusal.address (in_image l a)
    (read_node order (root_place r) (bound_key unbounded.lower) (bound_key unbounded.upper) (block_at l a)) d x in
    let (g, h) = checked_ok refusal.root (root_holds l a (leb 1 (length l.map)) d) (ok (opened_at l order xid a d)) s y in
    record {
      address = a;
      found = d;
      at = w;
      reads = x;
      sizes = t;
      passes = read_passed order (root_place r) (bound_key unbounded.lower) (bound_key unbounded.upper) (block_at l a) d z;
      rooted = g;
      state = cc;
    }

-- one slot, the root, clean, not dead, at the address read; the tree's numbers are those stored there
pub open_one : (l : Lent) (r order xid : ℕ) (s : State) (o : Opens l r order xid s)
    → (s.root ≡ 0) × (length s.nodes ≡ 1) × ((node_at s 0).dirty ≡ false) × ((node_at s 0).dead ≡ false) × ((node_at s 0).block ≡ o.address ∷ [])
    × (s.info ≡ info_at (block_at l o.address)) × (s.order ≡ order)
unfolding opened_at node_at adopted
open_one l r order xid s o =
    let q = o.state in (
      ap (λ (z : State). z.root) q,
      ap (λ (z : State). length z.nodes) q,
      ap (λ (z : State). (node_at z 0).dirty) q,
      ap (λ (z : State). (node_at z 0).dead) q,
      ap (λ (z : State). (node_at z 0).block) q,
      ap (λ (z : State). z.info) q,
      ap (λ (z : State). z.order) q,
    )

-- ---- and what it answers holds together

or_swap : (root : Bool) (a c : Bool) → not a || root && c ≡ true → c || not a ≡ true
or_swap root true true h = refl
or_swap true true false h = h
or_swap false true false h = h
or_swap root false true h = refl
or_swap root false false h = refl

module _ (l : Lent) (r order xid a : ℕ) where
  abbrev b : List ℕ
  b = block_at l a

  abbrev v : Node
  v = parsed (root_place r) b

  abbrev es : List Entry
  es = entries_from v b 0 v.nkeys

  abbrev t : State
  t = opened_at l order xid a (on_disk v b)

  abbrev m : MemNode
  m = adopted (leb 1 (length l.map)) a (on_disk v b)

  entries_spans : entries_hold (root_place r) v b ≡ true → spans_hold v b 0 v.nkeys ≡ true
  unfolding entries_hold
  entries_spans h =
      and_left (spans_hold v b 0 v.nkeys) (leb (spans_length v b 0 v.nkeys) (data_space (length b) (root_place r).root))
      (and_left (spans_hold v b 0 v.nkeys && leb (spans_length v b 0 v.nkeys) (data_space (length b) (root_place r).root))
      (not (eqb v.nkeys 0) || (root_place r).root && eqb v.level 0) h)

  -- an index has keys
  index_filled : entries_hold (root_place r) v b ≡ true → eqb v.level 0 || not (eqb (length es) 0) ≡ true
  unfolding entries_hold
  index_filled h =
      let q : not (eqb v.nkeys 0) || (root_place r).root && eqb v.level 0 ≡ true =
      and_right (spans_hold v b 0 v.nkeys && leb (spans_length v b 0 v.nkeys) (data_space (length b) (root_place r).root))
      (not (eqb v.nkeys 0) || (root_place r).root && eqb v.level 0) h in
      rw (entries_length v b 0 v.nkeys) (or_swap (root_place r).root (eqb v.nkeys 0) (eqb v.level 0) q)

  level_small : layout_holds (root_place r) v ≡ true → leb v.level 32 ≡ true
  unfolding layout_holds
  level_small h =
      and_right (leb v.keys v.vals) (leb v.level 32)
      (and_left (leb v.keys v.vals && leb v.level 32) (flags_hold (root_place r) v)
      (and_left (leb v.keys v.vals && leb v.level 32 && flags_hold (root_place r) v) (leb (v.nkeys * cond (is_fixed v) 4 8) (v.keys - v.toc))
      (and_left (leb v.keys v.vals && leb v.level 32 && flags_hold (root_place r) v && leb (v.nkeys * cond (is_fixed v) 4 8)
      (v.keys - v.toc)) (eqb v.oid (root_place r).oid) h)))

  keys_rise_lem : (lower upper : List ℕ) → keys_hold order (root_place r) lower upper es ≡ true → (every (λ e. keyed order e.key) es ≡ true)
      × (rising order es ≡ true)
  unfolding keys_hold keys_rise
  keys_rise_lem lower upper h = and_split (every (λ (e : Entry). keyed order e.key) es) (rising order es)
      (and_left (every (λ (e : Entry). keyed order e.key) es && rising order es) (keys_within order (root_place r) lower upper es) h)

  ksize_is : v.ksize ≡ t.info.key_size
  unfolding parsed root_place opened_at
  ksize_is = refl

  vsize_is : v.vsize ≡ t.info.val_size
  unfolding parsed root_place opened_at
  vsize_is = refl

  node_stands_lem : stands_on_disk t 0 m ≡ true
  unfolding stands_on_disk opened_at adopted
  node_stands_lem = by_test (leb 1 (length l.map)) (λ u. rw u) (λ u. rw u)

  node_holds_lem : (lower upper : List ℕ) → layout_holds (root_place r) v ≡ true → entries_hold (root_place r) v b ≡ true
      → keys_hold order (root_place r) lower upper es ≡ true → node_holds t 0 m ≡ true
  unfolding node_holds node_stands adopted on_disk opened_at
  node_holds_lem lower upper hl he hk =
      let (k, s) = keys_rise_lem lower upper hk in
      let f : Entry → Bool = λ e. key_fits t e.key && value_fits t e.value && suit (eqb v.level 0) e && child_holds t v.level e.value in
      let g : every f es ≡ true = every_join (λ e. keyed order e.key) (sound t v b ksize_is vsize_is) f es (fit_join t v.level) k
      (all_sound t v b ksize_is vsize_is 0 v.nkeys (entries_spans he)) in
      and_both (leb v.level 32 && (eqb v.level 0 || not (eqb (length es) 0)) && every f es && stands_on_disk t 0 m) (rising order es)
      (and_both (leb v.level 32 && (eqb v.level 0 || not (eqb (length es) 0)) && every f es) (stands_on_disk t 0 m)
      (and_both (leb v.level 32 && (eqb v.level 0 || not (eqb (length es) 0))) (every f es)
      (and_both (leb v.level 32) (eqb v.level 0 || not (eqb (length es) 0)) (level_small hl) (index_filled he)) g) node_stands_lem) s

  together : node_holds t 0 m ≡ true → entries_hold (root_place r) v b ≡ true → hold_together t ≡ true
  unfolding hold_together opened_at every_live named_once named node_at adopted on_disk
  together h he =
      let n : naming 0 es ≡ 0 = naming_none 0 v b 0 v.nkeys (entries_spans he) in
      rw (h, n)

  lent_map : leb (length l.map) 1 ≡ true → eqb (length l.map) (cond (leb 1 (length l.map)) 1 0) ≡ true
  lent_map h =
      let k : length l.map ≤ 1 = leb-true (length l.map) 1 h in
      by_test (leb 1 (length l.map))
      (λ u. let g : 1 ≤ length l.map = leb-true 1 (length l.map) u in rw u (eq-eqb (length l.map) 1 (omega arith)))
      (λ u. let g : length l.map < 1 = leb-false 1 (length l.map) u in rw u (eq-eqb (length l.map) 0 (omega arith)))

  slots_one : sizes_hold l ≡ true → leb 1 l.slots ≡ true
  unfolding sizes_hold
  slots_one h =
      and_right (is_size l.size && eqb (length l.image % l.size) 0 && leb 1 (blocks l) && leb (blocks l) (2 ^ 20)) (leb 1 l.slots)
      (and_left (is_size l.size && eqb (length l.image % l.size) 0 && leb 1 (blocks l) && leb (blocks l) (2 ^ 20) && leb 1 l.slots)
      (leb l.slots 4096) h)

  size_same : root_holds l a (leb 1 (length l.map)) (on_disk v b) ≡ true → eqb (info_at b).node_size l.size ≡ true
  unfolding root_holds
  size_same h = and_right (eqb (storage_class (on_disk v b).node.otype) (cond (leb 1 (length l.map)) 0 1))
      (eqb (info_at b).node_size l.size) h

  lent_holds_lem : info_holds (info_at b) ≡ true → sizes_hold l && known order && leb (length l.map) 1 ≡ true → root_holds l a (leb 1 (length l.map))
      (on_disk v b) ≡ true → hold_together t ≡ true → lent_holds l t ≡ true
  unfolding lent_holds numbers_hold opened_at
  lent_holds_lem i h k g =
      let (p, q) = and_split (sizes_hold l && known order) (leb (length l.map) 1) h in
      let (x, y) = and_split (sizes_hold l) (known order) p in
      rw (x, size_same k, y, i, lent_map q, slots_one x) g

held_at_lem : (l : Lent) (r order xid : ℕ) (s : State) (a : ℕ) (d : OnDisk) → info_holds (info_at (block_at l a)) ≡ true → sizes_hold l && known order
    && leb (length l.map) 1 ≡ true
    → Passed order (root_place r) (bound_key unbounded.lower) (bound_key unbounded.upper) (block_at l a) d
    → root_holds l a (leb 1 (length l.map)) d ≡ true → s ≡ opened_at l order xid a d → lent_holds l s ≡ true
held_at_lem l r order xid s a d i h p k q =
    let e : d ≡ on_disk (parsed (root_place r) (block_at l a)) (block_at l a) = p.read in
    let n = node_holds_lem l r order xid a (bound_key unbounded.lower) (bound_key unbounded.upper) p.layout p.entries p.keys in
    rw (q, e) (lent_holds_lem l r order xid a i h (rw e at k) (together l r order xid a n p.entries))

-- lengths and flags that a block of bytes stores are u32
info_holds_lem : (l : Lent) (a : ℕ) → AreBytes l.image → info_holds (info_at (block_at l a)) ≡ true
unfolding info_holds info_at block_at
info_holds_lem l a h =
    let b : List ℕ = window (a * l.size) l.size l.image in
    let k : Bytes b = bytes_window (a * l.size) l.size l.image (record { below = h }) in
    let f : (i : ℕ) → ltb (field_at 4 b i) (2 ^ 32) ≡ true = λ i. lt-ltb (field_at 4 b i) (2 ^ 32) (field_below 4 b i k) in
    rw (f (length b - 40), f (length b - 40 + 8), f (length b - 40 + 12), f (length b - 40 + 16), f (length b - 40 + 20))

-- after an accepted open of an image of bytes no call is refused with 1 for its slots
pub open_holds : (l : Lent) (r order xid : ℕ) (s : State) → AreBytes l.image → opened l r order xid ≡ ok s → lent_holds l s ≡ true
open_holds l r order xid s b e =
    let o : Opens l r order xid s = open_opens l r order xid s e in
    held_at_lem l r order xid s o.address o.found (info_holds_lem l o.address b) o.sizes o.passes o.rooted o.state
