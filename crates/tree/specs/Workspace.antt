-- The workspace: slots as words and bytes, a shadow for each, marks (1: a workspace that is none, a slot in use whose words or bytes are no node).
use Rattle.std.specs.Prelude.{List, [], ◌∷◌, Bool, true, ◌&&◌, ◌||◌, ℕ, zero, suc, ◌+◌, ◌*◌, length, leb, eqb}
use Rattle.node.specs.Bytes.{window}
use Rattle.node.specs.Result.{Result, ◌>>◌, check}
use Rattle.node.specs.Refusals as refusal
use Rattle.node.specs.Slot.{MemNode, head_at, node_of, records_hold}
use Rattle.node.specs.declared.head.Head.{Head}
use Rattle.tree.specs.State.{State}
use Rattle.tree.specs.declared.editor.Tree.{Tree}

-- a slot's words; with its shadow's, and its mark
abbrev pub slot_words : ℕ
slot_words = 9

abbrev pub words_each : ℕ
words_each = 19

-- a slot's bytes: four blocks' worth
abbrev pub slot_length : ℕ → ℕ
slot_length size = 4 * size

-- the bytes of slot n. After the slots come their shadows: the shadow of slot n is slot (slots + n)
unfoldable pub slot_bytes : ℕ → List ℕ → ℕ → List ℕ
slot_bytes size bytes n = window (n * slot_length size) (slot_length size) bytes

-- the nodes of the slots from n on, m of them
unfoldable pub nodes_from : ℕ → List ℕ → List ℕ → ℕ → ℕ → List MemNode
nodes_from size heads bytes zero n = []
nodes_from size heads bytes (suc m) n = node_of (head_at heads n) (slot_bytes size bytes n) ∷ nodes_from size heads bytes m (suc n)

-- the nodes of the slots in use
unfoldable pub nodes_of : ℕ → List ℕ → List ℕ → ℕ → List MemNode
nodes_of size heads bytes used = nodes_from size heads bytes used 0

-- the state that a tree's numbers and the slots in use are
unfoldable pub state_of : ℕ → Tree → List ℕ → List ℕ → State
state_of size t heads bytes =
    record {
      root = t.root;
      nodes = nodes_of size heads bytes t.used;
      info = t.info;
      virtual = t.by_id;
      subtype = t.subtype;
      order = t.order.code;
      xid = t.xid;
    }

-- a slot that is a node: its marks are 0 or 1, a number without its mark is 0, and, unless it is dead, its records lie in it, take the
-- bytes in use, and take no more than two blocks' worth
unfoldable pub slot_holds : ℕ → Head → List ℕ → Bool
slot_holds size h l =
    leb h.placed 1 && leb h.named 1 && leb h.dirty 1 && leb h.dead 1
    && (eqb h.placed 1 || eqb h.block 0) && (eqb h.named 1 || eqb h.id 0)
    && (eqb h.dead 1 || leb h.used (2 * size) && records_hold h.count h.used l)

-- every slot from n on, m of them
unfoldable pub slots_hold : ℕ → List ℕ → List ℕ → ℕ → ℕ → Bool
slots_hold size heads bytes zero n = true
slots_hold size heads bytes (suc m) n = slot_holds size (head_at heads n) (slot_bytes size bytes n) && slots_hold size heads bytes m (suc n)

-- words and bytes for so many slots and their shadows, a mark a slot; the slots in use are nodes
unfoldable pub workspace_holds : ℕ → ℕ → ℕ → List ℕ → List ℕ → Bool
workspace_holds size slots used heads bytes =
    eqb (length heads) (slots * words_each) && eqb (length bytes) ((slots + slots) * slot_length size)
    && leb used slots
    && slots_hold size heads bytes used 0

-- a call on lent words and bytes: 1 of the workspace, then the call on the state that it is
unfoldable pub called : {A : Type 0} → ℕ → ℕ → Tree → List ℕ → List ℕ → (State → Result A) → Result A
called size slots t heads bytes f = do
  check refusal.lent (workspace_holds size slots t.used heads bytes)
  f (state_of size t heads bytes)

-- 1: the scratch of an edit, two blocks' worth for a key on its way from slot to slot, and two a slot for what a drop removes
unfoldable pub scratch_holds : ℕ → ℕ → List ℕ → Bool
scratch_holds size slots scratch = eqb (length scratch) ((2 * slots + 2) * size)

-- an edit on lent words, bytes and scratch: 1 of the scratch, then as every call
unfoldable pub edits : {A : Type 0} → ℕ → ℕ → Tree → List ℕ → List ℕ → List ℕ → (State → Result A) → Result A
edits size slots t heads bytes scratch f = do
  check refusal.lent (scratch_holds size slots scratch)
  called size slots t heads bytes f
