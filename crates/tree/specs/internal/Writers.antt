-- What the writers of one slot leave: its words, its node.
use Rattle.std.specs.Prelude.{◌≡◌, List, false, ℕ, ◌≤◌, ◌<◌}
use Rattle.node.specs.Entry.{Entry}
use Rattle.node.specs.Records.{records_length}
use Rattle.node.specs.Slot.{MemNode, head_at}
use Rattle.node.specs.declared.slot.EntryAt.{EntryAt}
use Rattle.node.specs.declared.head.Head.{Head}
use Rattle.tree.specs.State.{with_entries, changed}
use Rattle.tree.specs.Trusts.{live}
use Rattle.tree.specs.Workspace.{slot_bytes}
use Rattle.tree.specs.internal.Bank.{node_in}
use Rattle.tree.specs.declared.floor.Spot.{Spot}
use Rattle.tree.specs.declared.writers.DirtyMark.{DirtyMark}
use Rattle.tree.specs.declared.writers.DirtyMark.TheVariants.{Set, Kept}

-- where an entry stands, or where one is put, after the last at most: what its numbers say of a slot in use
pub record SpotUpto (size used : ℕ) (heads bytes : List ℕ) (s : Spot) : Type 0 where
  pub slot : s.slot < used
  pub upto : s.index ≤ (live (head_at heads s.slot)).count
  pub start : s.at ≡ records_length s.index (slot_bytes size bytes s.slot)

-- the same where an entry stands
pub record SpotIn (size used : ℕ) (heads bytes : List ℕ) (s : Spot) : Type 0 where
  pub slot : s.slot < used
  pub index : s.index < (live (head_at heads s.slot)).count
  pub start : s.at ≡ records_length s.index (slot_bytes size bytes s.slot)

-- where an entry stands, or where one is put, in a slot whose node is not dead
pub record SpotAlive (size used : ℕ) (heads bytes : List ℕ) (s : Spot) : Type 0 where
  pub spot : SpotUpto size used heads bytes s
  pub alive : (node_in size heads bytes s.slot).dead ≡ false

-- an entry's place among the records that a slot's words speak of
abbrev pub entry_at : Spot → Head → EntryAt
entry_at s h = record { count = h.count; index = s.index; used = h.used; at = s.at }

-- the dirty mark that an edit leaves
unfoldable pub dirty_word : DirtyMark → ℕ → ℕ
dirty_word Set d = 1
dirty_word Kept d = d

-- a slot's words for other records; the slot is dirty too, or its mark stays
unfoldable pub recounted : DirtyMark → ℕ → ℕ → Head → Head
recounted mark count used h =
    record {
      level = h.level;
      count = count;
      used = used;
      placed = h.placed;
      block = h.block;
      named = h.named;
      id = h.id;
      dirty = dirty_word mark h.dirty;
      dead = h.dead;
    }

-- a node with other entries; it is dirty too, or its mark stays
abbrev pub edited : DirtyMark → MemNode → List Entry → MemNode
edited Set m es = changed m es
edited Kept m es = with_entries m es
