-- Load (RULES: load): bounds, a block read at an address, the object map's lookup, a child loaded into a slot.
use Rattle.std.specs.Prelude.{List, [], ◌∷◌, Bool, true, false, cond, ◌&&◌, not, ℕ, zero, suc, ◌-◌, ◌/◌, length, ltb, eqb}
use Rattle.node.specs.Bytes.{u32_at, u64_at}
use Rattle.node.specs.Result.{Result, ok, refused, ◌>>=◌, ◌>>◌, check}
use Rattle.node.specs.Refusals as refusal
use Rattle.node.specs.Order.{pair, pair_key, less}
use Rattle.node.specs.Entry.{Entry, Val, ghost, leaf, disk, mem}
use Rattle.node.specs.Find.{key_at, val_at, way_index, last_not_above, last_of}
use Rattle.node.specs.Fit.{flag}
use Rattle.node.specs.Read.{OnDisk, read_node, info_at}
use Rattle.node.specs.Slot.{MemNode, with_value}
use Rattle.node.specs.Place.{Place}
use Rattle.tree.specs.Lent.{Lent, block_at, in_image}
use Rattle.tree.specs.State.{State, node_at, put_node, add_node, with_entries}

-- ---- bounds

-- the bounds that the index keys of all nodes above set: none or one key on each side
pub record Bounds : Type 0 where
  pub lower : List (List ℕ)
  pub upper : List (List ℕ)

-- a root has none
unfoldable pub unbounded : Bounds
unbounded = record { lower = []; upper = [] }

-- the key of a bound
unfoldable pub bound_key : List (List ℕ) → List ℕ
bound_key [] = []
bound_key (k ∷ ks) = k

-- the higher of a lower bound and a key
unfoldable pub tighter_lower : ℕ → List (List ℕ) → List ℕ → List (List ℕ)
tighter_lower o [] k = k ∷ []
tighter_lower o (b ∷ bs) k = cond (less o b k) (k ∷ []) (b ∷ bs)

-- the lower of an upper bound and a key
unfoldable pub tighter_upper : ℕ → List (List ℕ) → List ℕ → List (List ℕ)
tighter_upper o [] k = k ∷ []
tighter_upper o (b ∷ bs) k = cond (less o k b) (k ∷ []) (b ∷ bs)

-- child i is bounded by its index key and the next; a last child has its parent's upper bound
unfoldable pub child_bounds : ℕ → Bounds → List Entry → ℕ → Bounds
child_bounds o bs es i =
    record {
      lower = tighter_lower o bs.lower (key_at es i);
      upper = cond (ltb (suc i) (length es)) (tighter_upper o bs.upper (key_at es (suc i))) bs.upper;
    }

-- ---- a block read

-- 2 to 9: the node at an address, in its place
unfoldable pub load_block : Lent → ℕ → Place → Bounds → ℕ → Result OnDisk
load_block l o p bs a = do
  check refusal.address (in_image l a)
  read_node o p (bound_key bs.lower) (bound_key bs.upper) (block_at l a)

-- a root stands alone; a child below its parent, with the tree's fixed lengths
unfoldable pub root_place : ℕ → Place
root_place id = record { root = true; oid = id; parent = 0; ksize = 0; vsize = 0; bounded = false }

unfoldable pub child_place : ℕ → ℕ → Bounds → ℕ → ℕ → Place
child_place ksize vsize bs level id =
    record { root = false; oid = id; parent = level; ksize = ksize; vsize = vsize; bounded = eqb (length bs.upper) 1 }

-- the storage class: 0 virtual, 1 physical (0x40000000)
unfoldable pub storage_class : ℕ → ℕ
storage_class otype = otype / 0x40000000

-- 10: a root's storage class, or its stored node size
unfoldable pub root_holds : Lent → ℕ → Bool → OnDisk → Bool
root_holds l a virtual d =
    eqb (storage_class d.node.otype) (cond virtual 0 1)
    && eqb (info_at (block_at l a)).node_size l.size

-- ---- the object map: a physical pair tree with keys and values of 16, its nodes read without slots

-- the number of a child on disk
unfoldable pub disk_number : Val → ℕ
disk_number ghost = 0
disk_number (leaf v) = 0
disk_number (disk r) = r
disk_number (mem c) = 0

unfoldable pub map_child : Lent → OnDisk → Bounds → ℕ → Result OnDisk
map_child l d bs i =
    let a : ℕ = disk_number (val_at d.entries i) in
    let cs : Bounds = child_bounds pair bs d.entries i in
    load_block l pair (child_place 16 16 cs d.node.level a) cs a

-- the last entry below a node
unfoldable pub map_last : ℕ → Lent → OnDisk → Bounds → Result (List Entry)
map_last zero l d bs = ok (last_of d.entries)
map_last (suc n) l d bs =
    let i : ℕ = length d.entries - 1 in
    map_child l d bs i >>= λ c. map_last n l c (child_bounds pair bs d.entries i)

-- the first answer if there is one, else the second
unfoldable pub or_else : List Entry → Result (List Entry) → Result (List Entry)
or_else [] r = r
or_else (e ∷ es) r = ok (e ∷ es)

-- floor's way: the last entry not above the key; leftward only if the leaf has none
unfoldable pub map_floor : ℕ → Lent → OnDisk → Bounds → List ℕ → Result (List Entry)
map_floor zero l d bs k = ok (last_not_above pair k d.entries)
map_floor (suc n) l d bs k =
    let es : List Entry = d.entries in
    let i : ℕ = way_index pair k es in
    map_child l d bs i
    >>= λ c. map_floor n l c (child_bounds pair bs es i) k
    >>= λ e. or_else e
    (cond (ltb 0 i && not (less pair k (key_at es i)))
    (map_child l d bs (i - 1) >>= λ c'. map_last n l c' (child_bounds pair bs es (i - 1)))
    (ok []))

-- an id's mapping: 18 where there is none or it is a ghost, 19 where flag 4 says encrypted
unfoldable pub mapping : ℕ → List Entry → Result ℕ
mapping id [] = refused refusal.unmapped
mapping id (e ∷ es) = check refusal.unmapped (eqb (u64_at e.key 0) id) >> target e.value
  where
    target : Val → Result ℕ
    target ghost = refused refusal.unmapped
    target (leaf v) = check refusal.encrypted (not (flag (u32_at v 0) 4)) >> ok (u64_at v 8)
    target (disk r) = refused refusal.unmapped
    target (mem c) = refused refusal.unmapped

-- 10 of the map's root: as in open, or keys and values not fixed at 16
unfoldable pub map_root_holds : Lent → ℕ → OnDisk → Bool
map_root_holds l a d =
    root_holds l a false d
    && eqb (info_at (block_at l a)).key_size 16 && eqb (info_at (block_at l a)).val_size 16

-- the address of an id as seen from a transaction: its entry with the greatest transaction not above
unfoldable pub map_address : Lent → ℕ → ℕ → ℕ → Result ℕ
map_address l xid id m = do
  d ← load_block l pair (root_place m) unbounded m
  check refusal.root (map_root_holds l m d)
  es ← map_floor d.node.level l d unbounded (pair_key id xid)
  mapping id es

-- the address of a reference: itself, or with a map lent its id's mapping
unfoldable pub address_of : Lent → ℕ → ℕ → Result ℕ
address_of l xid r = through l.map
  where
    through : List ℕ → Result ℕ
    through [] = ok r
    through (m ∷ ms) = map_address l xid r m

-- ---- a child loaded

-- a node that was read, as it stands in a slot
unfoldable pub adopted : Bool → ℕ → OnDisk → MemNode
adopted virtual a d =
    record {
      level = d.node.level;
      entries = d.entries;
      block = a ∷ [];
      id = cond virtual (d.node.oid ∷ []) [];
      dirty = false;
      dead = false;
    }

-- a state, and a slot of it
pub record At : Type 0 where
  pub state : State
  pub slot : ℕ

-- child i of slot n: loaded already, or loaded now into the next slot. (An index holds children only: `hold_together`)
unfoldable pub load_child : Lent → State → Bounds → ℕ → ℕ → Result At
load_child l s bs n i = child (val_at es i)
  where
    es : List Entry
    es = (node_at s n).entries

    cs : Bounds
    cs = child_bounds s.order bs es i

    linked : OnDisk → ℕ → At
    linked d a =
        let c : ℕ = length s.nodes in
        record { state = add_node (put_node s n (with_entries (node_at s n) (with_value i (mem c) es))) (adopted s.virtual a d); slot = c }

    fetched : ℕ → Result At
    fetched r = do
      check refusal.no_slot (ltb (length s.nodes) l.slots)
      a ← address_of l s.xid r
      d ← load_block l s.order (child_place s.info.key_size s.info.val_size cs (node_at s n).level r) cs a
      ok (linked d a)

    child : Val → Result At
    child ghost = refused refusal.lent
    child (leaf v) = refused refusal.lent
    child (disk r) = fetched r
    child (mem c) = ok (record { state = s; slot = c })
