-- The walk from a root on an image, each node loaded, slots aside; and trees that are well formed.
use Rattle.std.specs.Prelude.{List, [], ◌∷◌, ◌++◌, Bool, true, false, cond, ◌&&◌, ℕ, zero, suc, length, leb, eqb}
use Rattle.tree.specs.Format.{Result, ok, refused, ◌>>=◌, ◌>>◌, check, Entry, val_at, OnDisk, info_at, BTreeInfo, pair, known}
use Rattle.tree.specs.Refusals as refusal
use Rattle.tree.specs.Lent.{Lent, sizes_hold, block_at}
use Rattle.tree.specs.Load.{Bounds, unbounded, child_bounds, load_block, root_place, child_place, disk_number, root_holds, address_of}

-- what a walk reads: image and map, order, opened transaction; ids that a flush moved, with their new addresses
pub record Disk : Type 0 where
  pub lent : Lent
  pub order : ℕ
  pub xid : ℕ
  pub moved : List (ℕ × ℕ)

-- the new address of a moved id: none or one
unfoldable pub moved_to : List (ℕ × ℕ) → ℕ → List ℕ
moved_to [] r = []
moved_to (m ∷ ms) r = cond (eqb m.0 r) (m.1 ∷ []) (moved_to ms r)

-- the address of a reference: moved ids are read at their new addresses
unfoldable pub resolve : Disk → ℕ → Result ℕ
resolve x r = else_mapped (moved_to x.moved r)
  where
    else_mapped : List ℕ → Result ℕ
    else_mapped [] = address_of x.lent x.xid r
    else_mapped (a ∷ as') = ok a

-- a node met: its block and its id
pub record Visit : Type 0 where
  pub block : ℕ
  pub id : ℕ

-- nodes in walk order (a node before its children, left to right), entries of the leaves left to right
pub record Walk : Type 0 where
  pub nodes : List Visit
  pub entries : List Entry

-- a node before what is below it, and then what follows
unfoldable pub joined : Visit → Walk → Walk → Walk
joined v w rest = record { nodes = v ∷ w.nodes ++ rest.nodes; entries = w.entries ++ rest.entries }

-- the children of a node from child i on, m of them. f: the walk below a child
unfoldable pub walk_kids : (Bounds → OnDisk → Result Walk) → Disk → BTreeInfo → Bounds → OnDisk → ℕ → ℕ → Result Walk
walk_kids f x t bs d zero i = ok (record { nodes = []; entries = [] })
walk_kids f x t bs d (suc m) i =
    let r : ℕ = disk_number (val_at d.entries i) in
    let cs : Bounds = child_bounds x.order bs d.entries i in do
      a ← resolve x r
      c ← load_block x.lent x.order (child_place t.key_size t.val_size cs d.node.level r) cs a
      w ← f cs c
      rest ← walk_kids f x t bs d m (suc i)
      ok (joined (record { block = a; id = c.node.oid }) w rest)

-- the walk below a node that was read, n levels down
unfoldable pub walk_below : ℕ → Disk → BTreeInfo → Bounds → OnDisk → Result Walk
walk_below zero x t bs d = ok (record { nodes = []; entries = d.entries })
walk_below (suc n) x t bs d = walk_kids (walk_below n x t) x t bs d (length d.entries) 0

-- a walk from a root, with the tree's numbers as its root stores them
pub record Walked : Type 0 where
  pub walk : Walk
  pub info : BTreeInfo

unfoldable pub walk_from : Disk → ℕ → Result Walked
walk_from x r = do
  a ← resolve x r
  d ← load_block x.lent x.order (root_place r) unbounded a
  check refusal.root (root_holds x.lent a (leb 1 (length x.lent.map)) d)
  w ← walk_below d.node.level x (info_at (block_at x.lent a)) unbounded d
  ok (record {
    walk = record { nodes = record { block = a; id = d.node.oid } ∷ w.nodes; entries = w.entries };
    info = info_at (block_at x.lent a);
  })

-- stored key and node counts are those of the walk
unfoldable pub counts_hold : Result Walked → Bool
counts_hold (refused n) = false
counts_hold (ok w) = eqb w.info.key_count (length w.walk.entries) && eqb w.info.node_count (length w.walk.nodes)

-- a lent object map, as a disk of its own: a physical pair tree
unfoldable pub map_disk : Disk → Disk
map_disk x =
    record {
      lent = record { image = x.lent.image; size = x.lent.size; map = []; slots = x.lent.slots };
      order = pair;
      xid = x.xid;
      moved = [];
    }

-- its keys and values are fixed at 16
unfoldable pub lengths_are16 : Result Walked → Bool
lengths_are16 (refused n) = false
lengths_are16 (ok w) = eqb w.info.key_size 16 && eqb w.info.val_size 16

-- the same holds of a lent object map
unfoldable pub map_formed : Disk → List ℕ → Bool
map_formed x [] = true
map_formed x (m ∷ ms) = counts_hold (walk_from (map_disk x) m) && lengths_are16 (walk_from (map_disk x) m)

-- well-formed: open accepts, every reachable node loads (slots aside), stored counts are the walk's, and the same of a lent map
unfoldable pub well_formed : Disk → ℕ → Bool
well_formed x r =
    sizes_hold x.lent && known x.order && leb (length x.lent.map) 1
    && counts_hold (walk_from x r) && map_formed x x.lent.map

-- the blocks of a walk, and its ids
unfoldable pub blocks_of : List Visit → List ℕ
blocks_of [] = []
blocks_of (v ∷ vs) = v.block ∷ blocks_of vs

unfoldable pub ids_of : List Visit → List ℕ
ids_of [] = []
ids_of (v ∷ vs) = v.id ∷ ids_of vs

unfoldable pub visits_of : Result Walked → List Visit
visits_of (refused n) = []
visits_of (ok w) = w.walk.nodes

unfoldable pub list_of : Result Walked → List Entry
list_of (refused n) = []
list_of (ok w) = w.walk.entries

-- the blocks of a lent map
unfoldable pub map_blocks : Disk → List ℕ → List ℕ
map_blocks x [] = []
map_blocks x (m ∷ ms) = blocks_of (visits_of (walk_from (map_disk x) m))
