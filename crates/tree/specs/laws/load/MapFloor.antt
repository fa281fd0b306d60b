-- Laws of the object map's lookup: one for each way out. Assumes nothing.
use Rattle.std.specs.Borrow.{Bor}
use Rattle.std.specs.Prelude.{◌≡◌, Bool, take, ltb}
use Rattle.std.proofs.Math.Path.{refl, sym, ap}
use Rattle.std.proofs.Common.{◌∙◌}
use mathlib.Core.List.{List, ◌∷◌}
use Rattle.std.proofs.Math.Bool.{true, false}
use Prim.Native.Nat.{ℕ, suc, ◌-◌, ◌*◌, ◌/◌, ◌≤◌, ◌<◌}
use native.Mathlib.Omega.{arith}
use Rattle.std.proofs.Math.ListN.{length, drop}
use Rattle.std.proofs.Math.Seq.{take-length}
use borrow.Author.Tests.{lt-ltb, ltb-true}
use Rattle.node.specs.Bytes.{window}
use Rattle.node.specs.Result.{Result, ok, ◌>>=◌}
use Rattle.node.specs.laws.base.Results.{checked_ok}
use Rattle.node.specs.Refusals as refusal
use Rattle.node.specs.Order.{pair, less}
use Rattle.node.specs.Entry.{Entry}
use Rattle.node.specs.Find.{key_at, val_at, not_above, way_index, last_not_above, last_of}
use Rattle.node.specs.Read.{on_disk, parsed, read_node, read_of, map_ok, entries_from}
use Rattle.node.specs.laws.read.Accepted.{Accepted, loaded_accepts}
use Rattle.node.specs.declared.read.Node.{Node}
use Rattle.node.specs.declared.read.ReadNode.{ReadNode}
use Rattle.node.specs.Place.{Place, lent_key}
use Rattle.tree.specs.Lent as lent
use Rattle.tree.specs.Lent.{lent_of}
use Rattle.tree.specs.Load.{disk_number, child_bounds, child_place, load_block, map_child, map_last, map_floor, or_else}
use Rattle.tree.specs.laws.base.Refused.{handed_on}
use Rattle.tree.specs.laws.load.MapNode.{block_long, counts, edge_key, edge_bounded}
use Rattle.tree.specs.internal.Tree.{edges_of}
use Rattle.tree.specs.internal.Map.{load_at, map_read, map_child_at, map_loaded_of, leftward, found_of, spotted_of}
use Rattle.tree.specs.declared.editor.Bounds.{Bounds}
use Rattle.tree.specs.declared.lent.Lent.{Lent}
use Rattle.tree.specs.declared.mapped.MapNode.{MapNode}
use Rattle.tree.specs.declared.mapped.Mapped.{Mapped}
use Rattle.std.specs.Prelude as std
use Rattle.std.specs.Prelude.{Ok, Err, Some, None, Option, is_some}
use Rattle.node.specs.declared.refusal.Refusal.{Refusal}

-- ---- a block that was read

module _ (image : List ℕ) (l : Lent) (o a : ℕ) (p : Place) (lower upper : List ℕ) (x : std.Result Node Refusal) (v : Node)
    (e : read_of (lent.block_at (lent_of image l) a) x ≡ load_at (lent_of image l) o p lower upper a) (ex : x ≡ Ok v) where
  parts : (lent.in_image (lent_of image l) a ≡ true) × (read_node o p lower upper (lent.block_at (lent_of image l) a) ≡ ok
      (on_disk v (lent.block_at (lent_of image l) a)))
  unfolding load_at read_of
  parts = checked_ok refusal.address _ _ _ (sym e ∙ ap (read_of (lent.block_at (lent_of image l) a)) ex)

  pub load_inside : a < length image / l.size
  unfolding lent.in_image lent.blocks lent_of
  load_inside = ltb-true a (length image / l.size) parts.0

  pub load_accepts : l.size ≤ 65536 → Accepted o p lower upper (window (a * l.size) l.size image) v
  unfolding lent.block_at lent_of read_of
  load_accepts m =
      loaded_accepts o p lower upper (window (a * l.size) l.size image)
      (omega (arith, block_long image l.size a load_inside (window (a * l.size) l.size image) refl)) v (sym parts.1)

-- ---- a child

module _ (image : List ℕ) (l : Lent) (b : Bounds (Bor (List ℕ))) (level a w : ℕ) (x : std.Result ReadNode Refusal)
    (ew : a ≡ w)
    (e : read_of (lent.block_at (lent_of image l) a) (map_ok (λ r. r.node) x) ≡ load_at (lent_of image l) pair
    (record { root = false; oid = a; parent = level; ksize = 16; vsize = 16; bounded = is_some b.upper })
    (lent_key b.lower) (lent_key b.upper) a) where
  child_is : map_child_at (lent_of image l) level (edges_of b) w ≡ read_of (lent.block_at (lent_of image l) a) (map_ok (λ r. r.node) x)
  unfolding map_child_at load_block load_at child_place edges_of
  child_is = rw (← ew, ← edge_key b.lower, ← edge_key b.upper, ← edge_bounded b.upper) (sym e)

  pub child_refused : (k : Refusal) → x ≡ Err k → map_loaded_of (Err k) ≡ map_child_at (lent_of image l) level (edges_of b) w
  unfolding map_loaded_of read_of
  child_refused k ex = sym (child_is ∙ rw ex)

  module _ (r : ReadNode) (ex : x ≡ Ok r) (d : MapNode) (ed : d.read ≡ r) (eb : r.block.now ≡ window (a * l.size) l.size image) where
    pub child_loaded : map_loaded_of (Ok d) ≡ map_child_at (lent_of image l) level (edges_of b) w
    unfolding map_loaded_of read_of map_read lent.block_at lent_of
    child_loaded = rw (ed, eb) (sym (child_is ∙ rw ex))

  module _ (r : ReadNode) (ex : x ≡ Ok r) (m : l.size ≤ 65536) where
    accepts : Accepted pair (record { root = false; oid = a; parent = level; ksize = 16; vsize = 16; bounded = is_some b.upper })
        (lent_key b.lower) (lent_key b.upper) (window (a * l.size) l.size image) r.node
    accepts = load_accepts image l pair a _ (lent_key b.lower) (lent_key b.upper) (map_ok (λ r. r.node) x) r.node e
        (ap (map_ok (λ r. r.node)) ex) m

    pub child_ksize : r.node.ksize ≡ 16
    unfolding parsed
    child_ksize = ap (λ (n : Node). n.ksize) accepts.is

    pub child_vsize : r.node.vsize ≡ 16
    unfolding parsed
    child_vsize = ap (λ (n : Node). n.vsize) accepts.is

-- ---- the last entry

module _ (image : List ℕ) (l : Lent) (d : MapNode) (b : Bounds (Bor (List ℕ))) (level : ℕ) where
  pub last_here : level ≡ 0 → (f : Option Mapped) → found_of f ≡ drop (d.read.node.nkeys - 1) (take d.read.node.nkeys (map_read d).entries)
      → spotted_of (Ok f) ≡ map_last level (lent_of image l) (map_read d) (edges_of b)
  unfolding spotted_of map_last last_of
  last_here z f e =
      let es : List Entry = (map_read d).entries in
      let w : take d.read.node.nkeys es ≡ es = ap (λ (k : ℕ). take k es) (sym (counts d)) ∙ take-length es in
      rw (z, e, w, counts d)

module _ (image : List ℕ) (l : Lent) (d : MapNode) (b : Bounds (Bor (List ℕ))) (level i : ℕ) (ei : i ≡ d.read.node.nkeys - 1) where
  module _ (hl : level ≡ 0 → ⊥) (inner : Bounds (Bor (List ℕ))) (got : std.Result MapNode Refusal)
      (en : edges_of inner ≡ child_bounds pair (edges_of b) (map_read d).entries i)
      (eg : map_loaded_of got ≡ map_child_at (lent_of image l) d.read.node.level (edges_of inner)
      (disk_number (val_at (map_read d).entries i))) where
    last_step : map_last level (lent_of image l) (map_read d) (edges_of b) ≡
        (map_loaded_of got >>= λ c. map_last (level - 1) (lent_of image l) c (edges_of inner))
    unfolding map_last map_child map_child_at map_read on_disk
    last_step =
        let z : level ≡ suc (level - 1) = omega arith in
        let j : length (map_read d).entries - 1 ≡ i = omega (arith, counts d) in
        ap (λ (n : ℕ). map_last n (lent_of image l) (map_read d) (edges_of b)) z ∙ rw (j, eg, en)

    pub last_refused : (x : Refusal) → got ≡ Err x → spotted_of (Err x) ≡ map_last level (lent_of image l)
        (map_read d) (edges_of b)
    unfolding spotted_of found_of map_loaded_of
    last_refused x q = sym (last_step ∙ rw q)

    pub last_down : (c : MapNode) (r : std.Result (Option Mapped) Refusal) → got ≡ Ok c
        → spotted_of r ≡ map_last (level - 1) (lent_of image l)
        (map_read c) (edges_of inner)
        → spotted_of r ≡ map_last level (lent_of image l) (map_read d) (edges_of b)
    unfolding map_loaded_of
    last_down c r q e = sym (last_step ∙ rw q (sym e))

-- ---- leftward

module _ (image : List ℕ) (l : Lent) (d : MapNode) (b : Bounds (Bor (List ℕ))) (key : List ℕ) (i level : ℕ) where
  pub left_first : i ≡ 0 → spotted_of (Ok None) ≡ leftward level (lent_of image l) (map_read d)
      (edges_of b) key i
  unfolding spotted_of found_of leftward
  left_first z = sym (rw z)

  module _ (k : List ℕ) (t : Bool) (h : i ≡ 0 → ⊥) (ek : k ≡ key_at (map_read d).entries i) (et : t ≡ less pair key k) where
    before : t ≡ less pair key (key_at (map_read d).entries i)
    before = et ∙ ap (less pair key) ek

    more : ltb 0 i ≡ true
    more = lt-ltb 0 i (omega arith)

    pub left_before : t ≡ true → spotted_of (Ok None) ≡ leftward level (lent_of image l) (map_read d)
        (edges_of b) key i
    unfolding spotted_of found_of leftward
    left_before q = let z : less pair key (key_at (map_read d).entries i) ≡ true = sym before ∙ q in sym (rw (more, z))

    module _ (q : t ≡ false) (inner : Bounds (Bor (List ℕ))) (got : std.Result MapNode Refusal)
        (en : edges_of inner ≡ child_bounds pair (edges_of b) (map_read d).entries (i - 1))
        (eg : map_loaded_of got ≡ map_child_at (lent_of image l) d.read.node.level (edges_of inner)
        (disk_number (val_at (map_read d).entries (i - 1)))) where
      child_of_lem : map_child (lent_of image l) (map_read d) (edges_of b) (i - 1) ≡ map_loaded_of got
      unfolding map_child map_child_at map_read on_disk
      child_of_lem = rw (eg, en)

      left_step : leftward level (lent_of image l) (map_read d) (edges_of b) key i ≡
          (map_loaded_of got >>= λ c. map_last level (lent_of image l) c (edges_of inner))
      unfolding leftward
      left_step =
          let z : less pair key (key_at (map_read d).entries i) ≡ false = sym before ∙ q in
          rw (more, z, child_of_lem, en)

      pub left_refused : (x : Refusal) → got ≡ Err x → spotted_of (Err x) ≡ leftward level (lent_of image l)
          (map_read d) (edges_of b) key i
      unfolding spotted_of found_of map_loaded_of
      left_refused x g = sym (left_step ∙ rw g)

      pub left_down : (c : MapNode) (r : std.Result (Option Mapped) Refusal) → got ≡ Ok c
          → spotted_of r ≡ map_last level (lent_of image l)
          (map_read c) (edges_of inner)
          → spotted_of r ≡ leftward level (lent_of image l) (map_read d) (edges_of b) key i
      unfolding map_loaded_of
      left_down c r g e = sym (left_step ∙ rw g (sym e))

-- ---- the last entry not above a key

or_else_lem : (es : List Entry) (r : Result (List Entry)) (e : Entry) → or_else (e ∷ es) r ≡ ok (e ∷ es)
unfolding or_else
or_else_lem es r e = refl

module _ (image : List ℕ) (l : Lent) (d : MapNode) (b : Bounds (Bor (List ℕ))) (key : List ℕ) (level n i : ℕ)
    (en : n ≡ not_above pair key (entries_from d.read.node d.read.block.now 0 d.read.node.nkeys)) (ei : i ≡ n - 1) where
  not_above_lem : n ≡ not_above pair key (map_read d).entries
  unfolding map_read on_disk
  not_above_lem = en

  pub floor_here : level ≡ 0 → (f : Option Mapped) → found_of f ≡ drop (n - 1) (take n (map_read d).entries)
      → spotted_of (Ok f) ≡ map_floor level (lent_of image l) (map_read d) (edges_of b) key
  unfolding spotted_of map_floor last_not_above
  floor_here z f e = rw (z, e, ← not_above_lem)

  module _ (hl : level ≡ 0 → ⊥) (inner : Bounds (Bor (List ℕ))) (got : std.Result MapNode Refusal)
      (ec : edges_of inner ≡ child_bounds pair (edges_of b) (map_read d).entries i)
      (eg : map_loaded_of got ≡ map_child_at (lent_of image l) d.read.node.level (edges_of inner)
      (disk_number (val_at (map_read d).entries i))) where
    way_is : way_index pair key (map_read d).entries ≡ i
    unfolding way_index
    way_is = omega (arith, not_above_lem)

    floor_step : map_floor level (lent_of image l) (map_read d) (edges_of b) key
        ≡ (map_loaded_of got >>= λ c. map_floor (level - 1) (lent_of image l) c (edges_of inner) key
        >>= λ e. or_else e (leftward (level - 1) (lent_of image l) (map_read d) (edges_of b) key i))
    unfolding map_floor map_child map_child_at leftward map_read on_disk
    floor_step =
        let z : level ≡ suc (level - 1) = omega arith in
        ap (λ (m : ℕ). map_floor m (lent_of image l) (map_read d) (edges_of b) key) z ∙ rw (way_is, eg, ec)

    pub floor_refused : (x : Refusal) → got ≡ Err x → spotted_of (Err x) ≡ map_floor level (lent_of image l)
        (map_read d) (edges_of b) key
    unfolding spotted_of found_of map_loaded_of
    floor_refused x q = sym (floor_step ∙ rw q)

    module _ (c : MapNode) (q : got ≡ Ok c) (found : std.Result (Option Mapped) Refusal)
        (ef : spotted_of found ≡ map_floor (level - 1) (lent_of image l) (map_read c) (edges_of inner) key) where
      floor_next : map_floor level (lent_of image l) (map_read d) (edges_of b) key
          ≡ (spotted_of found >>= λ e. or_else e
          (leftward (level - 1) (lent_of image l) (map_read d) (edges_of b) key i))
      unfolding map_loaded_of
      floor_next = floor_step ∙ rw (q, ef)

      pub floor_below : (x : Refusal) → found ≡ Err x → spotted_of (Err x) ≡ map_floor level (lent_of image l)
          (map_read d) (edges_of b) key
      unfolding spotted_of found_of
      floor_below x f = sym (floor_next ∙ rw f)

      pub floor_found : (e : Option Mapped) (s : Mapped) → found ≡ Ok e → e ≡ Some s
          → spotted_of (Ok (Some s)) ≡ map_floor level (lent_of image l)
          (map_read d) (edges_of b) key
      unfolding spotted_of found_of or_else
      floor_found e s f g = sym (floor_next ∙ rw (f, g))

      pub floor_left : (e : Option Mapped) (r : std.Result (Option Mapped) Refusal) → found ≡ Ok e → e ≡ None
          → spotted_of r ≡ leftward (level - 1) (lent_of image l)
          (map_read d) (edges_of b) key i
          → spotted_of r ≡ map_floor level (lent_of image l) (map_read d) (edges_of b) key
      unfolding spotted_of found_of or_else
      floor_left e r f g h = sym (floor_next ∙ rw (f, g) (sym h))

pub ruleset child = (child_refused, child_loaded, child_ksize, child_vsize, handed_on)

pub ruleset left = (left_first, left_before, left_refused, left_down, handed_on)

pub ruleset last = (last_here, last_refused, last_down, handed_on)

pub ruleset floor = (floor_here, floor_refused, floor_below, floor_found, floor_left, handed_on)
