-- Laws of an id's address in the object map. Assumes nothing.
use Rattle.std.specs.Int.{from_bool}
use Rattle.std.specs.Borrow.{Bor}
use Rattle.std.proofs.Math.Path.{◌≡◌, sym, ap}
use Rattle.std.proofs.Common.{◌∙◌}
use mathlib.Core.List.{List, [], ◌∷◌}
use Rattle.std.proofs.Math.Bool.{Bool, false, cond}
use Rattle.std.specs.Prelude.{true, not, length}
use Prim.Native.Nat.{ℕ, ◌+◌, ◌*◌, ◌/◌, ◌≤◌}
use native.Mathlib.Omega.{arith}
use Rattle.std.proofs.Math.Dec.{eqb}
use borrow.Author.Tests.{eqb-true}
use Rattle.node.specs.Bytes.{window, u32_at, u64_at}
use Rattle.node.specs.laws.base.Tests.{by_test}
use Rattle.node.specs.Result.{◌>>=◌, ◌>>◌, check}
use Rattle.node.specs.Order.{pair, pair_key}
use Rattle.node.specs.Fit.{flag}
use Rattle.node.specs.Read.{on_disk, parsed, info_at, read_of, map_ok}
use Rattle.node.specs.Slot.{value_means, child_means}
use Rattle.node.specs.laws.read.Accepted.{Accepted}
use Rattle.node.specs.declared.info.BTreeInfo.{BTreeInfo}
use Rattle.node.specs.Place.{place_of, lent_root, lower_of, lent_key}
use Rattle.node.specs.declared.read.Place.{Place}
use Rattle.node.specs.declared.read.Node.{Node}
use Rattle.node.specs.declared.read.ReadNode.{ReadNode}
use Rattle.node.specs.declared.val.Val as Held
use Rattle.node.specs.declared.val.Val.TheVariants as held
use Rattle.node.specs.declared.val.Child.TheVariants as child
use Rattle.tree.specs.Lent as lent
use Rattle.tree.specs.Lent.{lent_of}
use Rattle.tree.specs.Load.{unbounded, bound_key, load_block, root_place, storage_class, root_holds, map_floor, mapping, map_root_holds, map_address, address_of}
use Rattle.tree.specs.laws.base.Refused.{handed_on}
use Rattle.tree.specs.laws.load.MapNode.{block_info}
use Rattle.tree.specs.laws.load.MapFloor.{load_accepts}
use Rattle.tree.specs.internal.Tree.{edge_of, edges_of}
use Rattle.tree.specs.internal.Mapped.{leaf_length}
use Rattle.tree.specs.internal.Map.{load_at, map_read, found_of, spotted_of, address_at, looked_up}
use Rattle.tree.specs.declared.lent.Lent.{Lent}
use Rattle.tree.specs.declared.mapped.MapNode.{MapNode}
use Rattle.tree.specs.declared.mapped.Mapped.{Mapped}
use Rattle.std.specs.Prelude as std
use Rattle.std.specs.Prelude.{refl, Ok, Err, Some, None, Option}
use Rattle.node.specs.declared.refusal.Refusal.{Refusal}
use Rattle.node.specs.declared.refusal.Refusal.TheVariants as is
use Rattle.node.specs.declared.val.Child.TheVariants as child

-- ---- roots

module _ (image : List ℕ) (l : Lent) (a : ℕ) (v : Node) (virtual : Bool) (class : ℕ) (ec : class ≡ from_bool (not virtual)) where
  wanted : class ≡ cond virtual 0 1
  wanted = by_test virtual (λ t. rw t (ec ∙ rw t)) (λ t. rw t (ec ∙ rw t))

  pub root_class : eqb (v.otype / 0x40000000) class ≡ false → root_holds (lent_of image l) a virtual
      (on_disk v (lent.block_at (lent_of image l) a)) ≡ false
  unfolding root_holds storage_class on_disk
  root_class h = rw (← wanted, h)

  module _ (hc : eqb (v.otype / 0x40000000) class ≡ true) (info : BTreeInfo) (b : List ℕ) (eb : b ≡ window (a * l.size) l.size image)
      (ei : info ≡ info_at b) where
    pub root_size : (t : Bool) → eqb info.node_size l.size ≡ t → root_holds (lent_of image l) a virtual
        (on_disk v (lent.block_at (lent_of image l) a)) ≡ t
    unfolding root_holds storage_class on_disk lent.block_at lent_of
    root_size t h = rw (← wanted, hc, ← eb, ← ei) h

pub info_is : (image : List ℕ) (l : Lent) (a : ℕ) (info : BTreeInfo) (b : List ℕ) → b ≡ window (a * l.size) l.size image → info ≡ info_at b
    → info ≡ info_at (lent.block_at (lent_of image l) a)
unfolding lent.block_at lent_of
info_is image l a info b eb ei = ei ∙ ap info_at eb

-- ---- an entry's mapping

module _ (id : ℕ) (f : Option Mapped) where
  pub mapping_none : f ≡ None → address_at (Err is.Unmapped) ≡ mapping id (found_of f)
  unfolding address_at found_of mapping
  mapping_none e = sym (rw e)

  module _ (m : Mapped) (q : f ≡ Some m) where
    found_is : found_of f ≡ record { key = m.key.now; value = value_means m.value } ∷ []
    unfolding found_of
    found_is = rw q

    pub id_room : 0 + 8 ≤ length m.key.now
    id_room = omega (arith, m.key_long)

    module _ (y : ℕ) (ey : y ≡ u64_at m.key.now 0) where
      pub mapping_other : eqb y id ≡ false → address_at (Err is.Unmapped) ≡ mapping id (found_of f)
      unfolding address_at mapping
      mapping_other n = rw (found_is, ← ey, n)

      module _ (e : eqb y id ≡ true) where
        bare : (z : Held.Val) → z ≡ m.value → ((v : Bor (List ℕ)) → m.value ≡ held.Leaf v → ⊥) → address_at (Err is.Unmapped) ≡ mapping id
            (found_of f)
        unfolding address_at mapping value_means child_means
        bare held.Ghost q h = rw (found_is, ← ey, e, ← q)
        bare (held.Leaf v) q h = absurd (h v (sym q))
        bare (held.Child (child.Disk r)) q h = rw (found_is, ← ey, e, ← q)
        bare (held.Child (child.Mem c)) q h = rw (found_is, ← ey, e, ← q)

        pub mapping_bare : ((v : Bor (List ℕ)) → m.value ≡ held.Leaf v → ⊥) → address_at (Err is.Unmapped) ≡ mapping id (found_of f)
        mapping_bare h = bare m.value refl h

        module _ (v : Bor (List ℕ)) (g : m.value ≡ held.Leaf v) where
          leaf_long : length v.now ≡ 16
          unfolding leaf_length
          leaf_long = sym (ap leaf_length g) ∙ m.value_long

          pub flags_room : 0 + 4 ≤ length v.now
          flags_room = omega (arith, leaf_long)

          pub address_room : 8 + 8 ≤ length v.now
          address_room = omega (arith, leaf_long)

          module _ (w : ℕ) (ew : w ≡ u32_at v.now 0) where
            pub mapping_encrypted : not (flag w 4) ≡ false → address_at (Err is.Encrypted) ≡ mapping id (found_of f)
            unfolding address_at mapping value_means
            mapping_encrypted h = rw (found_is, ← ey, e, g, ← ew, h)

            pub mapping_address : not (flag w 4) ≡ true → (a : ℕ) → a ≡ u64_at v.now 8 → address_at (Ok a) ≡ mapping id (found_of f)
            unfolding address_at mapping value_means
            mapping_address h a ea = rw (found_is, ← ey, e, g, ← ew, h, ← ea)

-- ---- from the root on

module _ (image : List ℕ) (l : Lent) (d : MapNode) (xid id : ℕ) (key : List ℕ) (s : std.Result (Option Mapped) Refusal)
    (ek : key ≡ pair_key id xid)
    (es : spotted_of s ≡ map_floor d.read.node.level (lent_of image l) (map_read d) (edges_of (record { lower = None; upper = None })) key) where
  looked_in : (spotted_of s >>= mapping id) ≡ looked_up (lent_of image l) (map_read d) xid id
  unfolding looked_up edges_of edge_of unbounded map_read on_disk
  looked_in = ap (λ x. x >>= mapping id) (es ∙ ap (map_floor d.read.node.level (lent_of image l) (map_read d) unbounded) ek)

  pub looked_refused : (x : Refusal) → s ≡ Err x → address_at (Err x) ≡ looked_up (lent_of image l) (map_read d) xid id
  unfolding address_at spotted_of
  looked_refused x e = sym (rw e) ∙ looked_in

  pub looked_found : (f : Option Mapped) (r : std.Result ℕ Refusal) → s ≡ Ok f → address_at r ≡ mapping id (found_of f)
      → address_at r ≡ looked_up (lent_of image l) (map_read d) xid id
  unfolding spotted_of
  looked_found f r e q = q ∙ ap (λ y. spotted_of y >>= mapping id) (sym e) ∙ looked_in

-- of a root that was read, what it is read as
module _ (image : List ℕ) (l : Lent) (m : ℕ) (x : std.Result ReadNode Refusal) (place : Place) (ep : place ≡ lent_root m)
    (e : read_of (lent.block_at (lent_of image l) m) (map_ok (λ r. r.node) x)
    ≡ load_at (lent_of image l) pair (place_of place) (lent_key (lower_of place)) (lent_key place.upper) m) where
  of_root : read_of (lent.block_at (lent_of image l) m) (map_ok (λ r. r.node) x)
      ≡ load_at (lent_of image l) pair (place_of (lent_root m)) [] [] m
  of_root = rw ep at e

  -- the lengths that it stores
  module _ (r : ReadNode) (ex : x ≡ Ok r) (q : l.size ≤ 65536) (info : BTreeInfo) (ei : info ≡ info_at (lent.block_at (lent_of image l) m)) where
    accepts : Accepted pair (place_of (lent_root m)) [] [] (window (m * l.size) l.size image) r.node
    accepts = load_accepts image l pair m _ [] [] (map_ok (λ r. r.node) x) r.node of_root (ap (map_ok (λ r. r.node)) ex) q

    pub address_ksize : eqb info.key_size 16 ≡ true → r.node.ksize ≡ 16
    unfolding parsed lent.block_at lent_of
    address_ksize k = ap (λ (n : Node). n.ksize) accepts.is ∙ ap (λ (i : BTreeInfo). i.key_size) (sym ei) ∙ eqb-true info.key_size 16 k

    pub address_vsize : eqb info.val_size 16 ≡ true → r.node.vsize ≡ 16
    unfolding parsed lent.block_at lent_of
    address_vsize k = ap (λ (n : Node). n.vsize) accepts.is ∙ ap (λ (i : BTreeInfo). i.val_size) (sym ei) ∙ eqb-true info.val_size 16 k

module _ (image : List ℕ) (l : Lent) (xid id m : ℕ) (x : std.Result ReadNode Refusal) (place : Place) (ep : place ≡ lent_root m)
    (e : read_of (lent.block_at (lent_of image l) m) (map_ok (λ r. r.node) x)
    ≡ load_at (lent_of image l) pair (place_of place) (lent_key (lower_of place)) (lent_key place.upper) m) where
  address_is : map_address (lent_of image l) xid id m ≡
      (read_of (lent.block_at (lent_of image l) m) (map_ok (λ r. r.node) x)
      >>= λ d. check 10 (map_root_holds (lent_of image l) m d) >> looked_up (lent_of image l) d xid id)
  unfolding map_address looked_up load_block load_at root_place unbounded bound_key
  address_is = rw (of_root image l m x place ep e)

  pub address_refused : (k : Refusal) → x ≡ Err k → address_at (Err k) ≡ map_address (lent_of image l) xid id m
  unfolding address_at read_of
  address_refused k ex = sym (address_is ∙ rw ex)

  module _ (r : ReadNode) (ex : x ≡ Ok r) where
    module _ (t : Bool) (et : root_holds (lent_of image l) m false (on_disk r.node (lent.block_at (lent_of image l) m)) ≡ t) where
      pub address_root : t ≡ false → address_at (Err is.Root) ≡ map_address (lent_of image l) xid id m
      unfolding address_at read_of map_root_holds
      address_root z = sym (address_is ∙ rw (ex, et, z))

      module _ (z : t ≡ true) (info : BTreeInfo) (ei : info ≡ info_at (lent.block_at (lent_of image l) m)) where
        pub address_keys : eqb info.key_size 16 ≡ false → address_at (Err is.Root) ≡ map_address (lent_of image l) xid id m
        unfolding address_at read_of map_root_holds
        address_keys k = sym (address_is ∙ rw (ex, et, z, ← ei, k))

        module _ (k : eqb info.key_size 16 ≡ true) where
          pub address_vals : eqb info.val_size 16 ≡ false → address_at (Err is.Root) ≡ map_address (lent_of image l) xid id m
          unfolding address_at read_of map_root_holds
          address_vals v = sym (address_is ∙ rw (ex, et, z, ← ei, k, v))

          pub address_found : eqb info.val_size 16 ≡ true → (d : MapNode) → d.read ≡ r → r.block.now ≡ window (m * l.size) l.size image
              → (a : std.Result ℕ Refusal) → address_at a ≡ looked_up (lent_of image l) (map_read d) xid id
              → address_at a ≡ map_address (lent_of image l) xid id m
          unfolding read_of map_read lent.block_at lent_of map_root_holds
          address_found v d ed eb a f = f ∙ rw (ed, eb) (sym (address_is ∙ rw (ex, et, z, ← ei, k, v)))

module _ (image : List ℕ) (l : Lent) (xid r : ℕ) where
  pub address_itself : l.map ≡ None → address_at (Ok r) ≡ address_of (lent_of image l) xid r
  unfolding address_at address_of lent_of
  address_itself h = sym (rw h)

  map_is : (m : ℕ) → l.map ≡ Some m → (lent_of image l).map ≡ m ∷ []
  unfolding lent_of
  map_is m h = rw h

  through_map : (k : lent.Lent) (a : ℕ) → k.map ≡ a ∷ [] → address_of k xid r ≡ map_address k xid r a
  unfolding address_of
  through_map k a q = rw q

  pub address_mapped : (m : ℕ) → l.map ≡ Some m → (x : std.Result ℕ Refusal) → address_at x ≡ map_address (lent_of image l) xid r m
      → address_at x ≡ address_of (lent_of image l) xid r
  address_mapped m h x e = e ∙ sym (through_map (lent_of image l) m (map_is m h))

pub ruleset roots = (block_info, root_class, root_size, info_is)

pub ruleset mapped = (mapping_none, mapping_other, mapping_bare, mapping_encrypted, mapping_address, id_room, flags_room, address_room, handed_on)

pub ruleset lookup = (looked_refused, looked_found, handed_on)

pub ruleset address = (address_refused, address_root, address_keys, address_vals, address_found, handed_on)

pub ruleset through = (address_itself, address_mapped)
