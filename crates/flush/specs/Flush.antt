-- Flush (RULES: flush).
use Rattle.std.specs.Prelude.{List, [], ◌∷◌, ◌++◌, map, Bool, true, false, cond, ◌&&◌, ℕ, zero, suc, ◌+◌, ◌-◌, ◌*◌, ◌/◌, ◌^◌, length, get_or, set, leb, eqb}
use Rattle.tree.specs.Format.{splice, Result, ok, ◌>>◌, check, Entry, Val, ghost, leaf, disk, mem, BTreeInfo, NodeBuild, MemNode, pack_node, numbered, only, number_of, data_space, packed_length}
use Rattle.tree.specs.Refusals as refusal
use Rattle.tree.specs.Lent.{Lent, blocks}
use Rattle.tree.specs.State.{State, no_node, node_at}
use Rattle.tree.specs.Hold.{lent_holds}
use Rattle.flush.specs.Space.{Space, Choice, choose, taken, usable, space_holds}

-- what flush changes: image, space and nodes; the next id; the report lists; how many blocks it took
pub record Flushing : Type 0 where
  pub image : List ℕ
  pub space : Space
  pub nodes : List MemNode
  pub next : ℕ
  pub freed : List ℕ
  pub removed : List ℕ
  pub moved : List (ℕ × ℕ)
  pub allocated : ℕ

-- the number of a slot's node for its parent: of a virtual tree its id, else its block
unfoldable pub slot_number : Bool → List MemNode → ℕ → ℕ
slot_number virtual ns c = number_of virtual (get_or ns c no_node)

-- type with storage class: B-tree root 2, node 3; physical 0x40000000
unfoldable pub type_of : Bool → Bool → ℕ
type_of virtual root = cond virtual 0 0x40000000 + cond root 2 3

-- what a node is packed from
unfoldable pub build_of : State → ℕ → ℕ → ℕ → MemNode → NodeBuild
build_of s xid oid n m =
    let root : Bool = eqb n s.root in
    record { oid = oid; xid = xid; otype = type_of s.virtual root; subtype = s.subtype; level = m.level; root = root; info = s.info }

-- a node that was written: its new block, its id, clean
unfoldable pub rewritten : MemNode → ℕ → List ℕ → MemNode
rewritten m a id = record { level = m.level; entries = m.entries; block = a ∷ []; id = id; dirty = false; dead = m.dead }

-- a dirty node in the block chosen for it: its old block freed, packed and sealed; a virtual one without an id takes the next
unfoldable pub write_at : State → ℕ → ℕ → Choice → Flushing → Flushing
write_at s xid n x w =
    let m : MemNode = get_or w.nodes n no_node in
    let a : ℕ = x.block in
    let is_new : Bool = s.virtual && eqb (length m.id) 0 in
    let id : List ℕ = cond is_new (w.next ∷ []) m.id in
    let oid : ℕ = cond s.virtual (only id) a in
    let es : List Entry = map (numbered (slot_number s.virtual w.nodes)) m.entries in
    record {
      image = splice w.image (a * s.info.node_size) (pack_node (build_of s xid oid n m) es);
      space = taken w.space x;
      nodes = set w.nodes n (rewritten m a id);
      next = w.next + cond is_new 1 0;
      freed = w.freed ++ m.block;
      removed = w.removed;
      moved = w.moved ++ cond s.virtual ((oid, a) ∷ []) [];
      allocated = suc w.allocated;
    }

-- a node after its children: clean ones stay; a dirty one takes the block chosen
unfoldable pub write_node : State → ℕ → ℕ → Flushing → Flushing
write_node s xid n w = cond (get_or w.nodes n no_node).dirty (into (choose s.info.node_size w.space)) w
  where
    into : List Choice → Flushing
    into [] = w
    into (x ∷ xs) = write_at s xid n x w

-- the loaded children among entries, left to right
unfoldable pub write_kids : (ℕ → Flushing → Flushing) → List Entry → Flushing → Flushing
write_kids f [] w = w
write_kids f (e ∷ es) w = write_kids f es (kid e.value)
  where
    kid : Val → Flushing
    kid ghost = w
    kid (leaf v) = w
    kid (disk r) = w
    kid (mem c) = f c w

-- children before parent and left to right, the depth falling with the level
unfoldable pub write_from : ℕ → State → ℕ → ℕ → Flushing → Flushing
write_from zero s xid n w = write_node s xid n w
write_from (suc d) s xid n w = write_node s xid n (write_kids (write_from d s xid) (node_at s n).entries w)

-- ---- dead nodes

-- in slot order: address to freed, id (virtual) to removed
unfoldable pub dead_blocks : List MemNode → List ℕ
dead_blocks [] = []
dead_blocks (m ∷ ms) = cond m.dead m.block [] ++ dead_blocks ms

unfoldable pub dead_ids : Bool → List MemNode → List ℕ
dead_ids virtual [] = []
dead_ids virtual (m ∷ ms) = cond (m.dead && virtual) m.id [] ++ dead_ids virtual ms

-- ---- what flush counts first

-- a sum over the nodes reached from slot n, d levels down
unfoldable pub sum_kids : (ℕ → ℕ) → List Entry → ℕ
sum_kids f [] = 0
sum_kids f (e ∷ es) = kid e.value + sum_kids f es
  where
    kid : Val → ℕ
    kid ghost = 0
    kid (leaf v) = 0
    kid (disk r) = 0
    kid (mem c) = f c

unfoldable pub sum_from : (MemNode → ℕ) → ℕ → State → ℕ → ℕ
sum_from f zero s n = f (node_at s n)
sum_from f (suc d) s n = f (node_at s n) + sum_kids (sum_from f d s) (node_at s n).entries

-- 16: dirty nodes reached from the root
unfoldable pub dirty_reached : State → ℕ
dirty_reached s = sum_from (λ m. cond m.dirty 1 0) (node_at s s.root).level s s.root

-- 17: of those, the virtual ones without an id
unfoldable pub ids_wanted : State → ℕ
ids_wanted s = sum_from (λ m. cond (m.dirty && s.virtual && eqb (length m.id) 0) 1 0) (node_at s s.root).level s s.root

-- ---- the call

-- root fill: contents, keys and values as packed, in percent of data space, rounded down
unfoldable pub fill : State → ℕ
fill s =
    let m : MemNode = node_at s s.root in
    let t : BTreeInfo = s.info in
    packed_length t true m.level m.entries * 100 / data_space t.node_size true

-- what flush answers: the root (address or id), blocks allocated, how many numbers stand in freed and removed and pairs in moved, keys, fill;
-- and what it leaves, the next id left over with it
pub record Flushed : Type 0 where
  pub root : ℕ
  pub allocated : ℕ
  pub freed_count : ℕ
  pub removed_count : ℕ
  pub moved_count : ℕ
  pub keys : ℕ
  pub fill : ℕ
  pub after : Flushing

-- dead nodes first, then the walk from the root
unfoldable pub flushed : Lent → Space → State → ℕ → ℕ → Flushed
flushed l p s xid next =
    let w : Flushing =
    write_from (node_at s s.root).level s xid s.root
    (record {
      image = l.image;
      space = p;
      nodes = s.nodes;
      next = next;
      freed = dead_blocks s.nodes;
      removed = dead_ids s.virtual s.nodes;
      moved = [];
      allocated = 0;
    }) in
    record {
      root = slot_number s.virtual w.nodes s.root;
      allocated = w.allocated;
      freed_count = length w.freed;
      removed_count = length w.removed;
      moved_count = length w.moved;
      keys = s.info.key_count;
      fill = fill s;
      after = w;
    }

-- the lengths of the report lists: of freed and removed in numbers, of moved in pairs
pub record Lists : Type 0 where
  pub freed : ℕ
  pub removed : ℕ
  pub moved : ℕ

-- 1: each report list is as long as the slots
unfoldable pub lists_hold : ℕ → Lists → Bool
lists_hold slots lists = eqb lists.freed slots && eqb lists.removed slots && eqb lists.moved slots

-- 1 of chunks and lists; 16; 17
unfoldable pub flush_in : Lent → Space → Lists → State → ℕ → ℕ → Result Flushed
flush_in l p lists s xid next = do
  check refusal.lent (space_holds l.size (blocks l) p && lists_hold l.slots lists)
  check refusal.full (leb (dirty_reached s) (usable l.size p))
  check refusal.count (leb (next + ids_wanted s) (2 ^ 64 - 1))
  ok (flushed l p s xid next)

-- 1 of slots; what follows
unfoldable pub flush : Lent → Space → Lists → State → ℕ → ℕ → Result Flushed
flush l p lists s xid next = do
  check refusal.lent (lent_holds l s)
  flush_in l p lists s xid next
