-- A tree that is open: its numbers, and its nodes, one a slot in the order in which the slots were taken.
use Rattle.std.specs.Prelude.{List, [], ◌∷◌, ◌++◌, Bool, true, false, ℕ, get_or, set}
use Rattle.node.specs.Entry.{Entry}
use Rattle.node.specs.Slot.{MemNode}
use Rattle.node.specs.declared.info.BTreeInfo.{BTreeInfo}

pub record State : Type 0 where
  -- the root's slot
  pub root : ℕ
  pub nodes : List MemNode
  pub info : BTreeInfo
  pub virtual : Bool
  pub subtype : ℕ
  pub order : ℕ
  -- the opened transaction
  pub xid : ℕ

-- ---- parts of a state replaced

unfoldable pub with_nodes : State → List MemNode → State
with_nodes s ns = record { root = s.root; nodes = ns; info = s.info; virtual = s.virtual; subtype = s.subtype; order = s.order; xid = s.xid }

unfoldable pub with_root : State → ℕ → State
with_root s r = record { root = r; nodes = s.nodes; info = s.info; virtual = s.virtual; subtype = s.subtype; order = s.order; xid = s.xid }

unfoldable pub with_info : State → BTreeInfo → State
with_info s t = record { root = s.root; nodes = s.nodes; info = t; virtual = s.virtual; subtype = s.subtype; order = s.order; xid = s.xid }

-- key and node counts, and longest lengths, replaced
unfoldable pub with_counts : BTreeInfo → ℕ → ℕ → BTreeInfo
with_counts t keys nodes =
    record {
      flags = t.flags;
      node_size = t.node_size;
      key_size = t.key_size;
      val_size = t.val_size;
      longest_key = t.longest_key;
      longest_val = t.longest_val;
      key_count = keys;
      node_count = nodes;
    }

unfoldable pub with_longest : BTreeInfo → ℕ → ℕ → BTreeInfo
with_longest t key val =
    record {
      flags = t.flags;
      node_size = t.node_size;
      key_size = t.key_size;
      val_size = t.val_size;
      longest_key = key;
      longest_val = val;
      key_count = t.key_count;
      node_count = t.node_count;
    }

-- ---- nodes

-- no node: what is read of a slot outside those in use
unfoldable pub no_node : MemNode
no_node = record { level = 0; entries = []; block = []; id = []; dirty = false; dead = true }

unfoldable pub node_at : State → ℕ → MemNode
node_at s n = get_or s.nodes n no_node

unfoldable pub put_node : State → ℕ → MemNode → State
put_node s n m = with_nodes s (set s.nodes n m)

-- one slot more
unfoldable pub add_node : State → MemNode → State
add_node s m = with_nodes s (s.nodes ++ m ∷ [])

unfoldable pub with_entries : MemNode → List Entry → MemNode
with_entries m es = record { level = m.level; entries = es; block = m.block; id = m.id; dirty = m.dirty; dead = m.dead }

-- entries changed: the node is dirty
unfoldable pub changed : MemNode → List Entry → MemNode
changed m es = record { level = m.level; entries = es; block = m.block; id = m.id; dirty = true; dead = m.dead }

unfoldable pub marked_dirty : MemNode → MemNode
marked_dirty m = changed m m.entries

-- a dead node has no entries: only its block and its id are looked at again, by flush
unfoldable pub marked_dead : MemNode → MemNode
marked_dead m = record { level = m.level; entries = []; block = m.block; id = m.id; dirty = m.dirty; dead = true }

unfoldable pub with_place : MemNode → List ℕ → List ℕ → MemNode
with_place m block id = record { level = m.level; entries = m.entries; block = block; id = id; dirty = m.dirty; dead = m.dead }

unfoldable pub with_level : MemNode → ℕ → MemNode
with_level m l = record { level = l; entries = m.entries; block = m.block; id = m.id; dirty = m.dirty; dead = m.dead }

-- a node that an edit makes: no block, no id, dirty
unfoldable pub made : ℕ → List Entry → MemNode
made level es = record { level = level; entries = es; block = []; id = []; dirty = true; dead = false }
