-- Laws of a child read and brought. Assumes nothing.
use Rattle.node.specs.laws.read.LoadLine.{node_read, node_refused}
use Rattle.tree.specs.laws.base.Refused.{handed_on}
use Rattle.std.proofs.lemmas.Result.{IfOk-at_ok}
use Rattle.std.proofs.Math.Path.{◌≡◌, refl, sym, ap}
use Rattle.std.proofs.Common.{◌∙◌}
use Rattle.std.specs.Borrow.{Bor}
use Rattle.std.specs.Prelude.{List, Bool, not}
use Rattle.std.proofs.Math.Bool.{true, false}
use Prim.Native.Nat.{ℕ, suc, ◌+◌, ◌-◌, ◌*◌, ◌/◌, ◌^◌, ◌≤◌, ◌<◌}
use native.Mathlib.Omega.{arith}
use Rattle.std.proofs.Math.ListN.{length}
use Rattle.std.proofs.Math.Dec.{ltb}
use borrow.Author.Tests.{le-ltb, lt-ltb, not-true, not-false}
use Rattle.node.specs.Bytes.{window}
use Rattle.node.specs.Result.{Result, ok, ◌>>=◌}
use Rattle.node.specs.laws.base.Tests.{never}
use Rattle.node.specs.Order.{less}
use Rattle.node.specs.Entry.{Val, ghost, leaf, disk, mem}
use Rattle.node.specs.Find.{key_at, val_at}
use Rattle.node.specs.laws.slot.Records.{length_entries, records_least}
use Rattle.node.specs.Read.{OnDisk, on_disk, read_of, spans_length}
use Rattle.node.specs.Fit.{data_space}
use Rattle.node.specs.laws.read.Accepted.{Accepted}
use Rattle.node.specs.Slot.{head_at, node_of, is_child}
use Rattle.node.specs.declared.head.Head.{Head}
use Rattle.node.specs.declared.read.Node.{Node}
use Rattle.node.specs.Place.{Place, lent_key}
use Rattle.tree.specs.Lent as lent
use Rattle.tree.specs.Lent.{lent_of}
use Rattle.tree.specs.Workspace.{slot_bytes, state_of}
use Rattle.tree.specs.State.{State, no_node, node_at}
use Rattle.tree.specs.laws.state.State.{by_val, at_used, val_used}
use Rattle.tree.specs.Load.{bound_key, tighter_lower, tighter_upper, child_bounds, child_place, load_block, address_of, load_child, At}
use Rattle.tree.specs.Load as load
use Rattle.tree.specs.laws.state.Load.{brought, load_there}
use Rattle.tree.specs.internal.Bank.{node_in, live, Lies, Ready}
use Rattle.tree.specs.laws.slots.Bank.{live_entries}
use Rattle.tree.specs.internal.Map.{load_at, address_at}
use Rattle.tree.specs.laws.load.MapNode.{block_long, block_at_lem, edge_key, edge_bounded}
use Rattle.tree.specs.laws.load.MapFloor.{load_inside, load_accepts}
use Rattle.node.specs.internal.Children.{child_of}
use Rattle.tree.specs.internal.Tree.{bound_of, edge_of, bounds_of, read_child, fetched_at, loaded_of}
use Rattle.tree.specs.laws.slots.Tree.{node_in_lem, node_out, used_nodes}
use Rattle.tree.specs.declared.editor.Tree.{Tree}
use Rattle.tree.specs.declared.editor.Position.{Position}
use Rattle.tree.specs.declared.editor.Bounds.{Bounds}
use Rattle.tree.specs.declared.lent.Lent.{Lent}
use Rattle.std.specs.Prelude as std
use Rattle.node.specs.declared.val.Child.{Child}
use Rattle.std.specs.Prelude.{Ok, Err, Some, None, Option, is_some}
use Rattle.node.specs.declared.refusal.Refusal.{Refusal}
use Rattle.node.specs.declared.refusal.Refusal.TheVariants as is
use Rattle.node.specs.declared.val.Child.TheVariants as child

-- ---- a slot's count and level

module _ (size : ℕ) (t : Tree) (heads bytes : List ℕ) where
  pub count_out : (n : ℕ) → t.used ≤ n → 0 ≡ length (node_at (state_of size t heads bytes) n).entries
  unfolding no_node
  count_out n h = sym (rw (node_out size t heads bytes n h))

  pub level_out : (n : ℕ) → t.used ≤ n → 0 ≡ (node_at (state_of size t heads bytes) n).level
  unfolding no_node
  level_out n h = sym (rw (node_out size t heads bytes n h))

  pub level_is : (n : ℕ) → n < t.used → (h : Head) → h ≡ head_at heads n → h.level ≡ (node_at (state_of size t heads bytes) n).level
  unfolding node_in node_of
  level_is n hn h eh = rw (node_in_lem size t heads bytes n hn, ← eh)

  module _ (n : ℕ) (hn : n < t.used) (h : Head) (eh : h ≡ live (head_at heads n)) where
    pub count_is : h.count ≡ length (node_at (state_of size t heads bytes) n).entries
    unfolding node_in
    count_is =
        rw (node_in_lem size t heads bytes n hn, live_entries (head_at heads n) (slot_bytes size bytes n), ← eh)
        (sym (length_entries h.count (slot_bytes size bytes n)))

    pub count_few : (slots : ℕ) → Ready size slots t.used heads bytes → h.count < 2 ^ 32
    count_few slots r =
        let l : Lies size h (slot_bytes size bytes n) = rw eh (r.lies n hn) in
        omega (arith, l.room, records_least h.count (slot_bytes size bytes n), r.most)

-- ---- bounds

module _ (s : State) (b : Option Position) where
  pub bound_none : b ≡ None → edge_of None ≡ bound_of s b
  unfolding edge_of bound_of
  bound_none h = rw h

  pub bound_some : (x : Position) (k : Bor (List ℕ)) → b ≡ Some x → k.now ≡ key_at (node_at s x.slot).entries x.index
      → edge_of (Some k) ≡ bound_of s b
  unfolding edge_of bound_of
  bound_some x k h e = rw (h, e)

pub ruleset bound_keys = (bound_none, bound_some)

module _ (s : State) (b : Option Position) (q : Option (Bor (List ℕ))) (eq : edge_of q ≡ bound_of s b) (o n i : ℕ) where
  pub lower_first : q ≡ None → bound_of s (Some (record { slot = n; index = i })) ≡ tighter_lower o (bound_of s b) (key_at (node_at s n).entries i)
  unfolding edge_of bound_of tighter_lower
  lower_first h = rw (← eq, h)

  pub upper_first : q ≡ None → bound_of s (Some (record { slot = n; index = i })) ≡ tighter_upper o (bound_of s b) (key_at (node_at s n).entries i)
  unfolding edge_of bound_of tighter_upper
  upper_first h = rw (← eq, h)

  module _ (x : Bor (List ℕ)) (h : q ≡ Some x) (key : List ℕ) (t : Bool) (ek : key ≡ key_at (node_at s n).entries i) where
    pub lower_new : t ≡ less o x.now key → not t ≡ false → bound_of s (Some (record { slot = n; index = i })) ≡ tighter_lower o (bound_of s b)
        (key_at (node_at s n).entries i)
    unfolding edge_of bound_of tighter_lower
    lower_new et g = let z : less o x.now key ≡ true = sym et ∙ not-false t g in rw (← eq, h, ← ek, z)

    pub lower_old : t ≡ less o x.now key → not t ≡ true → bound_of s b ≡ tighter_lower o (bound_of s b) (key_at (node_at s n).entries i)
    unfolding edge_of bound_of tighter_lower
    lower_old et g = let z : less o x.now key ≡ false = sym et ∙ not-true t g in rw (← eq, h, ← ek, z)

    pub upper_new : t ≡ less o key x.now → not t ≡ false → bound_of s (Some (record { slot = n; index = i })) ≡ tighter_upper o (bound_of s b)
        (key_at (node_at s n).entries i)
    unfolding edge_of bound_of tighter_upper
    upper_new et g = let z : less o key x.now ≡ true = sym et ∙ not-false t g in rw (← eq, h, ← ek, z)

    pub upper_old : t ≡ less o key x.now → not t ≡ true → bound_of s b ≡ tighter_upper o (bound_of s b) (key_at (node_at s n).entries i)
    unfolding edge_of bound_of tighter_upper
    upper_old et g = let z : less o key x.now ≡ false = sym et ∙ not-true t g in rw (← eq, h, ← ek, z)

pub ruleset tighter = (lower_first, lower_new, lower_old, upper_first, upper_new, upper_old)

module _ (s : State) (b : Bounds Position) (o n i count : ℕ) (lower : Option Position) (ec : count ≡ length (node_at s n).entries)
    (el : bound_of s lower ≡ tighter_lower o (bound_of s b.lower) (key_at (node_at s n).entries i)) where
  pub bounds_last : count - 1 ≤ i → bounds_of s (record { lower = lower; upper = b.upper }) ≡ child_bounds o (bounds_of s b) (node_at s n).entries i
  unfolding bounds_of child_bounds
  bounds_last h =
      let t : ltb (suc i) (length (node_at s n).entries) ≡ false = le-ltb (suc i) (length (node_at s n).entries) (omega arith) in
      rw (el, t)

  pub bounds_inner : (upper : Option Position) → (count - 1 ≤ i → ⊥) → bound_of s upper
      ≡ tighter_upper o (bound_of s b.upper) (key_at (node_at s n).entries (i + 1))
      → bounds_of s (record { lower = lower; upper = upper }) ≡ child_bounds o (bounds_of s b) (node_at s n).entries i
  unfolding bounds_of child_bounds
  bounds_inner upper h eu =
      let z : i + 1 ≡ suc i = omega arith in
      rw (el, eu, z, lt-ltb (suc i) (length (node_at s n).entries) (omega arith))

pub ruleset inner_bounds = (bounds_last, bounds_inner)

-- ---- a block read

module _ (image : List ℕ) (l : Lent) (t : Tree) (heads bytes : List ℕ) (b : Bounds Position) (n r a level : ℕ) (x : std.Result Node Refusal)
    (lo up : Option (Bor (List ℕ)))
    (ev : level ≡ (node_at (state_of l.size t heads bytes) n).level)
    (el : edge_of lo ≡ bound_of (state_of l.size t heads bytes) b.lower)
    (eu : edge_of up ≡ bound_of (state_of l.size t heads bytes) b.upper)
    (e : read_of (lent.block_at (lent_of image l) a) x ≡ load_at (lent_of image l) t.order.code
    (record {
      root = false;
      oid = r;
      parent = level;
      ksize = t.info.key_size;
      vsize = t.info.val_size;
      bounded = is_some up;
    }) (lent_key lo) (lent_key up) a) where
  pub read_child_lem : read_of (lent.block_at (lent_of image l) a) x ≡ read_child (lent_of image l) (state_of l.size t heads bytes)
      (bounds_of (state_of l.size t heads bytes) b) n r a
  unfolding read_child load_block load_at child_place bounds_of state_of
  read_child_lem = rw (← ev, ← el, ← eu, ← edge_key lo, ← edge_key up, ← edge_bounded up) e

-- ---- a child that is on disk

by_child : (v : Val) (r : ℕ) → child_of v ≡ Some (child.Disk r) → v ≡ disk r
unfolding child_of
by_child ghost r e = let z : ◌≡◌ {A = ℕ} 0 1 = cc in absurd (omega arith)
by_child (leaf v) r e = let z : ◌≡◌ {A = ℕ} 0 1 = cc in absurd (omega arith)
by_child (disk q) r e = cc
by_child (mem c) r e = let z : ◌≡◌ {A = ℕ} 0 1 = cc in absurd (omega arith)

disk_some : (r : ℕ) → disk r ≡ ghost → ⊥
disk_some r e = let z : ◌≡◌ {A = ℕ} 0 1 = cc in omega arith

module _ (size : ℕ) (t : Tree) (heads bytes : List ℕ) (n i r : ℕ)
    (e : child_of (val_at (node_at (state_of size t heads bytes) n).entries i) ≡ Some (child.Disk r)) where
  is_disk_lem : val_at (node_at (state_of size t heads bytes) n).entries i ≡ disk r
  is_disk_lem = by_child (val_at (node_at (state_of size t heads bytes) n).entries i) r e

  pub disk_slot : n < t.used
  disk_slot = omega (arith, at_used (state_of size t heads bytes) n i (disk r) (disk_some r) is_disk_lem, used_nodes size t heads bytes)

  pub disk_entry : i < (live (head_at heads n)).count
  disk_entry = omega (
    arith,
    val_used (node_at (state_of size t heads bytes) n).entries i (disk r) (disk_some r) is_disk_lem,
    count_is size t heads bytes n disk_slot (live (head_at heads n)) refl,
  )

  pub disk_child : is_child (val_at (node_at (state_of size t heads bytes) n).entries i) ≡ true
  unfolding is_child
  disk_child = rw is_disk_lem

-- ---- read, then brought

module _ (image : List ℕ) (l : Lent) (t : Tree) (heads bytes : List ℕ) (b : Bounds Position) (n i r a : ℕ) (x : std.Result Node Refusal)
    (e : read_of (lent.block_at (lent_of image l) a) x ≡ read_child (lent_of image l) (state_of l.size t heads bytes)
    (bounds_of (state_of l.size t heads bytes) b) n r a) where
  abbrev s : State
  s = state_of l.size t heads bytes

  abbrev cs : load.Bounds
  cs = bounds_of (state_of l.size t heads bytes) b

  fetched_is : fetched_at (lent_of image l) s cs n i r a ≡ (read_of (lent.block_at (lent_of image l) a) x >>= λ d. ok (brought s n i d a))
  unfolding fetched_at
  fetched_is = ap (λ (y : Result OnDisk). y >>= λ d. ok (brought s n i d a)) (sym e)

  pub fetch_refused : (k : Refusal) → x ≡ Err k → loaded_of l.size heads bytes (Err k) ≡ fetched_at (lent_of image l)
      (state_of l.size t heads bytes) (bounds_of (state_of l.size t heads bytes) b) n i r a
  unfolding loaded_of read_of
  fetch_refused k ex = sym (fetched_is ∙ rw ex)

  module _ (v : Node) (ex : x ≡ Ok v) where
    abbrev place : Place
    place = child_place s.info.key_size s.info.val_size cs (node_at s n).level r

    at_load : read_of (lent.block_at (lent_of image l) a) x ≡ load_at (lent_of image l) s.order place (bound_key cs.lower) (bound_key cs.upper) a
    unfolding read_child load_block load_at
    at_load = e

    fetch_in : a < length image / l.size
    fetch_in = load_inside image l s.order a place (bound_key cs.lower) (bound_key cs.upper) x v at_load ex

    module _ (m : l.size ≤ 65536) (block : List ℕ) (eb : block ≡ window (a * l.size) l.size image) where
      accepts : Accepted s.order place (bound_key cs.lower) (bound_key cs.upper) (window (a * l.size) l.size image) v
      accepts = load_accepts image l s.order a place (bound_key cs.lower) (bound_key cs.upper) x v at_load ex m

      pub fetch_long : length block ≡ l.size
      fetch_long = block_long image l.size a fetch_in block eb

      pub fetch_space : spans_length v block 0 v.nkeys ≤ 65532
      unfolding data_space child_place
      fetch_space = rw eb (omega (arith, accepts.space, fetch_long, ap length eb))

      pub fetch_loaded : (t' : Tree) (c : ℕ) (heads' bytes' : List ℕ) → state_of l.size t' heads' bytes' ≡ (brought
          (state_of l.size t heads bytes) n i (on_disk v block) a).state → c ≡ t.used
          → loaded_of l.size heads' bytes' (Ok (t', c)) ≡ fetched_at (lent_of image l) (state_of l.size t heads bytes)
          (bounds_of (state_of l.size t heads bytes) b) n i r a
      unfolding loaded_of read_of
      fetch_loaded t' c heads' bytes' es ec =
          let z : c ≡ length s.nodes = ec ∙ sym (used_nodes l.size t heads bytes) in
          let w : on_disk v block ≡ on_disk v (lent.block_at (lent_of image l) a) = ap (on_disk v) (eb ∙ block_at_lem image l a) in
          sym (fetched_is ∙ rw (ex, ← w, es, z))

-- ---- a child loaded

module _ (image : List ℕ) (l : Lent) (t : Tree) (heads bytes : List ℕ) (b : Bounds Position) (n i : ℕ) (x : Option Child)
    (e : x ≡ child_of (val_at (node_at (state_of l.size t heads bytes) n).entries i)) where
  abbrev st : State
  st = state_of l.size t heads bytes

  abbrev bs : load.Bounds
  bs = bounds_of (state_of l.size t heads bytes) b

  none_val : (v : Val) → child_of v ≡ None → is_child v ≡ false
  unfolding child_of is_child
  none_val ghost q = refl
  none_val (leaf v) q = refl
  none_val (disk r) q = let z : ◌≡◌ {A = ℕ} 0 1 = cc in absurd (omega arith)
  none_val (mem c) q = let z : ◌≡◌ {A = ℕ} 0 1 = cc in absurd (omega arith)

  mem_val : (v : Val) (c : ℕ) → child_of v ≡ Some (child.Mem c) → v ≡ mem c
  unfolding child_of
  mem_val ghost c q = let z : ◌≡◌ {A = ℕ} 0 1 = cc in absurd (omega arith)
  mem_val (leaf v) c q = let z : ◌≡◌ {A = ℕ} 0 1 = cc in absurd (omega arith)
  mem_val (disk r) c q = let z : ◌≡◌ {A = ℕ} 0 1 = cc in absurd (omega arith)
  mem_val (mem d) c q = cc

  pub load_none : x ≡ None → loaded_of l.size heads bytes (Err is.Lent) ≡ load_child (lent_of image l) (state_of l.size t heads bytes)
      (bounds_of (state_of l.size t heads bytes) b) n i
  unfolding load_child loaded_of is_child
  load_none q =
      let f : is_child (val_at (node_at st n).entries i) ≡ false = none_val (val_at (node_at st n).entries i) (sym e ∙ q) in
      by_val (val_at (node_at st n).entries i)
      (λ y. rw y)
      (λ v y. rw y)
      (λ r y. let g : is_child (disk r) ≡ false = ap is_child (sym y) ∙ f in never refl g)
      (λ c y. let g : is_child (mem c) ≡ false = ap is_child (sym y) ∙ f in never refl g)

  pub load_mem : (c : ℕ) → x ≡ Some (child.Mem c) → loaded_of l.size heads bytes (Ok (t, c)) ≡ load_child (lent_of image l)
      (state_of l.size t heads bytes) (bounds_of (state_of l.size t heads bytes) b) n i
  unfolding loaded_of
  load_mem c q = sym (load_there (lent_of image l) st bs n i c (mem_val (val_at (node_at st n).entries i) c (sym e ∙ q)))

  module _ (r : ℕ) (q : x ≡ Some (child.Disk r)) where
    pub load_disk : child_of (val_at (node_at (state_of l.size t heads bytes) n).entries i) ≡ Some (child.Disk r)
    load_disk = sym e ∙ q

    is_there_lem : val_at (node_at st n).entries i ≡ disk r
    is_there_lem = by_child (val_at (node_at st n).entries i) r load_disk

    pub load_full : l.slots ≤ t.used → loaded_of l.size heads bytes (Err is.NoSlot) ≡ load_child (lent_of image l)
        (state_of l.size t heads bytes) (bounds_of (state_of l.size t heads bytes) b) n i
    unfolding load_child loaded_of lent_of
    load_full h =
        let z : ltb (length st.nodes) l.slots ≡ false = le-ltb (length st.nodes) l.slots
        (omega (arith, used_nodes l.size t heads bytes)) in
        sym (rw (is_there_lem, z))

    module _ (h : t.used < l.slots) (f : std.Result ℕ Refusal) (ef : address_at f ≡ address_of (lent_of image l) t.xid r) where
      free : ltb (length st.nodes) (lent_of image l).slots ≡ true
      unfolding lent_of
      free = lt-ltb (length st.nodes) l.slots (omega (arith, used_nodes l.size t heads bytes))

      found : address_of (lent_of image l) st.xid r ≡ address_at f
      unfolding state_of
      found = sym ef

      order_is : (inner : Bounds Position) → bounds_of st inner ≡ child_bounds t.order.code bs (node_at st n).entries i
          → bounds_of st inner ≡ child_bounds
          st.order bs (node_at st n).entries i
      unfolding state_of
      order_is inner ei = ei

      pub load_unmapped : (k : Refusal) → f ≡ Err k → loaded_of l.size heads bytes (Err k) ≡ load_child (lent_of image l)
          (state_of l.size t heads bytes) (bounds_of (state_of l.size t heads bytes) b) n i
      unfolding load_child loaded_of address_at
      load_unmapped k g = sym (rw (is_there_lem, free, found, g))

      pub load_fetched : (a : ℕ) (inner : Bounds Position) → f ≡ Ok a → bounds_of (state_of l.size t heads bytes) inner ≡ child_bounds t.order.code
          (bounds_of (state_of l.size t heads bytes) b) (node_at (state_of l.size t heads bytes) n).entries i
          → (y : Result At) → y ≡ fetched_at (lent_of image l) (state_of l.size t heads bytes)
          (bounds_of (state_of l.size t heads bytes) inner) n i r a
          → y ≡ load_child (lent_of image l) (state_of l.size t heads bytes) (bounds_of (state_of l.size t heads bytes) b) n i
      unfolding load_child fetched_at read_child address_at
      load_fetched a inner g ei y ey =
          let w : bounds_of st inner ≡ child_bounds st.order bs (node_at st n).entries i = order_is inner ei in
          sym (rw (is_there_lem, free, found, g, ← w) (sym ey))

-- ---- what the code takes of these

pub ruleset fetching =
    (node_read, node_refused, handed_on, IfOk-at_ok, disk_slot, disk_entry, disk_child, fetch_refused, fetch_long, fetch_space, fetch_loaded)

pub ruleset loading =
    (handed_on, load_none, load_mem, load_disk, load_full, load_unmapped, load_fetched)
