-- Laws of the object map's nodes: keys, numbers, entries, bounds. Assumes nothing.
use Rattle.std.specs.Borrow.{Bor}
use Rattle.node.specs.laws.base.Bytes.{Bytes, bytes_window}
use Rattle.std.specs.Prelude.{◌≡◌, refl, Bool, cond, ltb, length, get_or, take, drop}
use Rattle.std.proofs.Math.Path.{sym, ap}
use Rattle.std.proofs.Common.{◌∙◌, zero-add, drop-cons, mul-le-mul_right, mul_comm}
use mathlib.Core.List.{List, [], ◌∷◌}
use Rattle.std.proofs.Math.Bool.{true, false}
use Prim.Native.Nat.{ℕ, suc, ◌+◌, ◌-◌, ◌*◌, ◌/◌, ◌%◌, ◌≤◌, ◌<◌}
use native.Mathlib.Omega.{arith}
use Rattle.std.proofs.Math.Nat.{mod-add-div}
use Rattle.std.proofs.Math.ListN.{get_or-eq_default, length-take, drop_of_length-le}
use Rattle.std.proofs.Math.Seq.{get_or-take}
use Rattle.std.proofs.Math.Dec.{eqb}
use borrow.Author.Tests.{le-ltb, lt-ltb}
use Rattle.node.specs.Bytes.{window, u64_at}
use Rattle.node.specs.laws.base.Seal.{length_window}
use Rattle.node.specs.Order.{pair, less}
use Rattle.node.specs.Entry.{Entry, ghost, leaf, disk, value_length}
use Rattle.node.specs.Find.{key_at, val_at}
use Rattle.node.specs.Read.{read_node, read_of, is_fixed, is_ghost, span_at, value_at, on_disk, entry_at, entries_from}
use Rattle.node.specs.Slot.{value_means}
use Rattle.node.specs.laws.base.Tests.{by_test, never}
use Rattle.node.specs.laws.read.Read.{part_window, is_fixed_true, value_counts}
use Rattle.node.specs.laws.read.Keys.{sound_key, sound_span, value_of_lem, key_of as span_key}
use Rattle.node.specs.laws.read.Accepted.{at_from}
use Rattle.node.specs.declared.read.Node.{Node}
use Rattle.node.specs.declared.read.Span.{Span}
use Rattle.node.specs.Place.{Place, lent_key}
use Rattle.node.specs.declared.val.Val as Held
use Rattle.node.specs.declared.val.Val.TheVariants as held
use Rattle.node.specs.laws.read.Loaded.{entries_length}
use Rattle.tree.specs.Lent as lent
use Rattle.tree.specs.Lent.{lent_of}
use Rattle.tree.specs.Load.{bound_key, disk_number, tighter_lower, tighter_upper, child_bounds}
use Rattle.tree.specs.internal.Tree.{edge_of, edges_of}
use Rattle.tree.specs.internal.Mapped.{leaf_length}
use Rattle.tree.specs.internal.Map.{load_at, map_read, found_of}
use Rattle.tree.specs.declared.editor.Bounds.{Bounds}
use Rattle.tree.specs.declared.lent.Lent.{Lent}
use Rattle.tree.specs.declared.mapped.MapNode.{MapNode}
use Rattle.tree.specs.declared.mapped.Mapped.{Mapped}
use Rattle.std.specs.Prelude as std
use Rattle.std.specs.Prelude.{Ok, Err, OnOk, Some, None, Option, IsTrue, MatchOption, is_some}
use Rattle.node.specs.declared.refusal.Refusal.{Refusal}
use Rattle.node.specs.declared.refusal.Refusal.TheVariants as is

-- ---- a block

pub block_room : (len size a : ℕ) → a < len / size → a * size + size ≤ len
block_room len size a h =
    let p : suc a * size ≤ len / size * size = mul-le-mul_right size h in
    let q : len % size + size * (len / size) ≡ len = mod-add-div len size in
    let c : size * (len / size) ≡ len / size * size = mul_comm size (len / size) in
    omega arith

pub block_at_lem : (image : List ℕ) (l : Lent) (a : ℕ) → window (a * l.size) l.size image ≡ lent.block_at (lent_of image l) a
unfolding lent.block_at lent_of
block_at_lem image l a = refl

-- a block's bytes are bytes
pub block_known : (image : List ℕ) (at size : ℕ) (block : List ℕ) → Bytes image → block ≡ window at size image → Bytes block
block_known image at size block h e = rw e (bytes_window at size image h)

module _ (image : List ℕ) (size a : ℕ) (h : a < length image / size) (b : List ℕ) (e : b ≡ window (a * size) size image) where
  pub block_long : length b ≡ size
  block_long = ap length e ∙ length_window (a * size) size image (block_room (length image) size a h)

  pub block_least : 512 ≤ size → 512 ≤ length b
  block_least m = omega (arith, block_long)

  -- a root's numbers lie in it
  pub block_info : 512 ≤ size → 40 ≤ length b
  block_info m = omega (arith, block_long)

  pub block_most : size ≤ 65536 → length b ≤ 65536
  block_most m = omega (arith, block_long)

pub at_each : {R P : Type 0} (x : std.Result R Refusal) → P → OnOk x P
at_each (Ok r) h = h
at_each (Err k) h = tt

module _ (image : List ℕ) (l : Lent) (o a : ℕ) (p : Place) (lower upper : List ℕ) where
  pub load_out : length image / l.size ≤ a → read_of (lent.block_at (lent_of image l) a) (Err is.Address)
      ≡ load_at (lent_of image l) o p lower upper a
  unfolding load_at lent.in_image lent.blocks lent_of read_of
  load_out h = sym (rw (le-ltb a (length image / l.size) h))

  pub load_in : (x : std.Result Node Refusal) (b : List ℕ) → a < length image / l.size → b ≡ window (a * l.size) l.size image
      → read_of b x ≡ read_node o p lower upper b
      → read_of (lent.block_at (lent_of image l) a) x ≡ load_at (lent_of image l) o p lower upper a
  unfolding load_at lent.in_image lent.blocks lent.block_at lent_of
  load_in x b h eb e = rw (lt-ltb a (length image / l.size) h, ← eb) e

-- ---- an entry

module _ (d : MapNode) (i : ℕ) where
  past : d.read.node.nkeys ≤ i → record { key = []; value = ghost } ≡ get_or (map_read d).entries i (record { key = []; value = ghost })
  unfolding map_read on_disk
  past h =
      sym (get_or-eq_default (entries_from d.read.node d.read.block.now 0 d.read.node.nkeys) (record { key = []; value = ghost })
      (omega (arith, entries_length d.read.node d.read.block.now 0 d.read.node.nkeys)))

  pub key_past : d.read.node.nkeys ≤ i → [] ≡ key_at (map_read d).entries i
  unfolding key_at
  key_past h = ap (λ (x : Entry). x.key) (past h)

  pub number_past : d.read.node.nkeys ≤ i → 0 ≡ disk_number (val_at (map_read d).entries i)
  unfolding val_at disk_number
  number_past h = ap (λ (x : Entry). disk_number x.value) (past h)

  module _ (hi : i < d.read.node.nkeys) where
    pub entry_is : get_or (map_read d).entries i (record { key = []; value = ghost }) ≡ entry_at d.read.node d.read.block.now i
    unfolding map_read on_disk
    entry_is = at_from d.read.node d.read.block.now 0 d.read.node.nkeys i (record { key = []; value = ghost }) hi
        ∙ ap (entry_at d.read.node d.read.block.now) (zero-add i)

    pub entry_key : (k : List ℕ) → k ≡ (entry_at d.read.node d.read.block.now i).key → k ≡ key_at (map_read d).entries i
    unfolding key_at
    entry_key k e = e ∙ sym (ap (λ (x : Entry). x.key) entry_is)

    number_of : disk_number (entry_at d.read.node d.read.block.now i).value ≡ disk_number (val_at (map_read d).entries i)
    unfolding val_at
    number_of = ap (λ (y : Entry). disk_number y.value) (sym entry_is)

    pub number_leaf : d.read.node.level ≡ 0 → 0 ≡ disk_number (val_at (map_read d).entries i)
    unfolding entry_at value_at disk_number
    number_leaf z =
        let s : Span = span_at d.read.node d.read.block.now i in
        by_test (is_ghost s) (λ t. rw t) (λ t. rw (t, z)) ∙ number_of

    pub number_disk : (r : ℕ) → (entry_at d.read.node d.read.block.now i).value ≡ disk r → r ≡ disk_number (val_at (map_read d).entries i)
    unfolding disk_number
    number_disk r e = ap disk_number (sym e) ∙ number_of

-- ---- the last of the first n entries

pub one_of : (es : List Entry) (i : ℕ) (d : Entry) → i < length es → length es ≤ suc i → drop i es ≡ get_or es i d ∷ []
one_of es i d h g = drop-cons es i d h ∙ ap (λ (x : List Entry). get_or es i d ∷ x) (drop_of_length-le es g)

pub counts : (d : MapNode) → length (map_read d).entries ≡ d.read.node.nkeys
unfolding map_read on_disk
counts d = entries_length d.read.node d.read.block.now 0 d.read.node.nkeys

module _ (d : MapNode) (n : ℕ) where
  pub none_found : n ≡ 0 → found_of None ≡ drop (n - 1) (take n (map_read d).entries)
  unfolding found_of
  none_found z = sym (rw z)

  pub entry_found : n ≤ d.read.node.nkeys → (n ≡ 0 → ⊥) → (m : Mapped) → m.key.now ≡ (entry_at d.read.node d.read.block.now (n - 1)).key
      → value_means m.value ≡ (entry_at d.read.node d.read.block.now (n - 1)).value
      → found_of (Some m) ≡ drop (n - 1) (take n (map_read d).entries)
  unfolding found_of
  entry_found few h m ek ev =
      let es : List Entry = (map_read d).entries in
      let none : Entry = record { key = []; value = ghost } in
      let c : length (map_read d).entries ≡ d.read.node.nkeys = counts d in
      let t : length (take n es) ≡ n = length-take n es ∙ omega arith in
      let g : drop (n - 1) (take n es) ≡ get_or (take n es) (n - 1) none ∷ [] = one_of (take n es) (n - 1) none (omega arith) (omega arith) in
      let y : get_or (take n es) (n - 1) none ≡ get_or es (n - 1) none = get_or-take n es (n - 1) none (omega arith) in
      rw (g, y, entry_is d (n - 1) (omega arith), ek, ev)

-- ---- keys and values of fixed lengths: a key has 16 bytes, and a leaf's value

module _ (d : MapNode) (i : ℕ) (hi : i < d.read.node.nkeys) where
  abbrev at_i : Span
  at_i = span_at d.read.node d.read.block.now i

  fixed : is_fixed d.read.node ≡ true
  fixed = is_fixed_true d.read.node (λ z. omega (arith, d.ksize))

  klen_fixed : at_i.klen ≡ 16
  unfolding span_at
  klen_fixed = rw fixed d.ksize

  vlen_fixed : eqb d.read.node.level 0 ≡ true → at_i.vlen ≡ 16
  unfolding span_at
  vlen_fixed t = rw (fixed, t) d.vsize

  pub key_fixed : (k : List ℕ) → k ≡ (entry_at d.read.node d.read.block.now i).key → length k ≡ 16
  key_fixed k e =
      ap length (e ∙ sym (span_key d.read.node d.read.block.now i at_i refl))
      ∙ length_window at_i.key at_i.klen d.read.block.now (sound_key d.read.node d.read.block.now i at_i d.read.sound hi refl)
      ∙ klen_fixed

  module _ (u : List ℕ) (is_leaf : (entry_at d.read.node d.read.block.now i).value ≡ leaf u) where
    held_leaf : value_at d.read.node d.read.block.now at_i ≡ leaf u
    held_leaf = value_of_lem d.read.node d.read.block.now i at_i refl ∙ is_leaf

    no_ghost : is_ghost at_i ≡ false
    unfolding value_at
    no_ghost = by_test (is_ghost at_i) (λ t. let z : ghost ≡ leaf u = rw t at held_leaf in let y : ◌≡◌ {A = ℕ} 0 1 = cc in absurd
        (omega arith)) (λ t. t)

    at_leaf : eqb d.read.node.level 0 ≡ true
    unfolding value_at
    at_leaf =
        by_test (eqb d.read.node.level 0) (λ t. t)
        (λ t. let z : disk (u64_at d.read.block.now (d.read.node.vals - at_i.voff)) ≡ leaf u = rw
        (no_ghost, t) at held_leaf in let y : ◌≡◌ {A = ℕ} 0 1 = cc in absurd (omega arith))

    leaf_long : length u ≡ 16
    unfolding value_length
    leaf_long =
        let z : value_length (value_at d.read.node d.read.block.now at_i) ≡ cond (is_ghost at_i) 0 at_i.vlen = value_counts d.read.node
        d.read.block.now at_i (sound_span d.read.node d.read.block.now i at_i d.read.sound hi refl) in
        sym (ap value_length held_leaf) ∙ z ∙ rw no_ghost (vlen_fixed at_leaf)

  pub value_fixed : (x : Held.Val) → value_means x ≡ (entry_at d.read.node d.read.block.now i).value → leaf_length x ≡ 16
  unfolding leaf_length value_means
  value_fixed held.Ghost e = refl
  value_fixed (held.Leaf u) e = leaf_long u.now (sym e)
  value_fixed (held.Child c) e = refl

-- ---- bounds

pub edge_key : (b : Option (Bor (List ℕ))) → lent_key b ≡ bound_key (edge_of b)
unfolding edge_of bound_key
edge_key None = refl
edge_key (Some k) = refl

pub edge_bounded : (b : Option (Bor (List ℕ))) → is_some b ≡ eqb (length (edge_of b)) 1
unfolding edge_of
edge_bounded None = refl
edge_bounded (Some k) = refl

module _ (o : ℕ) (k : Bor (List ℕ)) (t : Bool) where
  pub raised : (b : Option (Bor (List ℕ))) → MatchOption b (IsTrue t) (λ x. t ≡ less o x.now k.now) → t ≡ true
      → edge_of (Some k) ≡ tighter_lower o (edge_of b) k.now
  unfolding edge_of tighter_lower
  raised None m h = refl
  raised (Some x) m h = rw (← m, h)

  pub kept_lower : (b : Option (Bor (List ℕ))) → MatchOption b (IsTrue t) (λ x. t ≡ less o x.now k.now) → t ≡ false
      → edge_of b ≡ tighter_lower o (edge_of b) k.now
  unfolding edge_of tighter_lower
  kept_lower None m h = never m h
  kept_lower (Some x) m h = rw (← m, h)

  pub lowered : (b : Option (Bor (List ℕ))) → MatchOption b (IsTrue t) (λ x. t ≡ less o k.now x.now) → t ≡ true
      → edge_of (Some k) ≡ tighter_upper o (edge_of b) k.now
  unfolding edge_of tighter_upper
  lowered None m h = refl
  lowered (Some x) m h = rw (← m, h)

  pub kept_upper : (b : Option (Bor (List ℕ))) → MatchOption b (IsTrue t) (λ x. t ≡ less o k.now x.now) → t ≡ false
      → edge_of b ≡ tighter_upper o (edge_of b) k.now
  unfolding edge_of tighter_upper
  kept_upper None m h = never m h
  kept_upper (Some x) m h = rw (← m, h)

module _ (d : MapNode) (b : Bounds (Bor (List ℕ))) (i : ℕ) (first : List ℕ) (lower : Option (Bor (List ℕ)))
    (ef : first ≡ key_at (map_read d).entries i)
    (el : edge_of lower ≡ tighter_lower pair (edge_of b.lower) first) where
  lowers : edge_of lower ≡ tighter_lower pair (edge_of b.lower) (key_at (map_read d).entries i)
  lowers = el ∙ ap (tighter_lower pair (edge_of b.lower)) ef

  pub bounds_last : d.read.node.nkeys - 1 ≤ i → edges_of (record { lower = lower; upper = b.upper }) ≡ child_bounds pair (edges_of b)
      (map_read d).entries i
  unfolding edges_of child_bounds
  bounds_last h =
      let t : ltb (suc i) (length (map_read d).entries) ≡ false = le-ltb (suc i) (length (map_read d).entries) (omega (arith, counts d)) in
      rw (lowers, t)

  pub bounds_inner : (next : List ℕ) (upper : Option (Bor (List ℕ))) → (d.read.node.nkeys - 1 ≤ i → ⊥)
      → next ≡ key_at (map_read d).entries (i + 1) → edge_of upper ≡ tighter_upper pair (edge_of b.upper) next
      → edges_of (record { lower = lower; upper = upper }) ≡ child_bounds pair (edges_of b) (map_read d).entries i
  unfolding edges_of child_bounds
  bounds_inner next upper h en eu =
      let z : i + 1 ≡ suc i = omega arith in
      let y : edge_of upper ≡ tighter_upper pair (edge_of b.upper) (key_at (map_read d).entries (i + 1)) =
      eu ∙ ap (tighter_upper pair (edge_of b.upper)) en in
      rw (lowers, y, z, lt-ltb (suc i) (length (map_read d).entries) (omega (arith, counts d)))

pub ruleset in_image = (block_room, part_window)

pub ruleset loads = (block_least, block_most, load_out, load_in, at_each)

pub ruleset tighter = (raised, kept_lower, lowered, kept_upper)

pub ruleset keys = (key_past, entry_key)

pub ruleset numbers = (number_past, number_leaf, number_disk)

pub ruleset entries = (none_found, entry_found, key_fixed, value_fixed)

pub ruleset bounds = (bounds_last, bounds_inner)
