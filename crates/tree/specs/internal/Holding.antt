-- What the pass of refusal 1 computes: a slot's words, its node but for its children, then its children, each marked.
use Rattle.std.specs.Prelude.{◌≡◌, List, [], ◌∷◌, Bool, cond, ◌&&◌, ◌||◌, not, ℕ, zero, suc, ◌+◌, ◌*◌, ◌≤◌, length, leb, ltb, eqb}
use Rattle.node.specs.Result.{Result, ok, refused, ◌>>=◌}
use Rattle.node.specs.Entry.{Entry, Val, ghost, leaf, disk, mem}
use Rattle.node.specs.Records.{entries_of}
use Rattle.node.specs.Fit.{fits_sums, room_of}
use Rattle.node.specs.Slot.{head_at}
use Rattle.node.specs.internal.SlotSteps.{records_stand}
use Rattle.node.specs.declared.head.Head.{Head}
use Rattle.tree.specs.State.{State}
use Rattle.tree.specs.Workspace.{slot_bytes, slot_holds}
use Rattle.tree.specs.Hold.{node_holds}
use Rattle.tree.specs.internal.Bank.{node_in}
use Rattle.tree.specs.internal.Marks.{mark_value, mark_entries}
use Rattle.tree.specs.declared.editor.Tree.{Tree}

-- words and bytes for so many slots and their shadows, a mark a slot
pub record Laid (size slots used : ℕ) (heads bytes : List ℕ) : Type 0 where
  pub least : 512 ≤ size
  pub most : size ≤ 65536
  pub many : slots ≤ 4096
  pub words : length heads ≡ slots * 19
  pub room : length bytes ≡ (slots + slots) * (4 * size)
  pub within : used ≤ slots

-- the same as a test, without the sizes
unfoldable pub room_holds : ℕ → ℕ → ℕ → List ℕ → List ℕ → Bool
room_holds size slots used heads bytes = eqb (length heads) (slots * 19) && eqb (length bytes) ((slots + slots) * (4 * size)) && leb used slots

-- an index has entries
unfoldable pub count_holds : ℕ → ℕ → Bool
count_holds level count = eqb level 0 || not (eqb count 0)

-- a dirty node fits, its keys and values taking so much room; a clean one has a block and, if virtual, an id
unfoldable pub place_holds : Tree → Bool → Head → ℕ → Bool
place_holds t root h room =
    cond (eqb h.dirty 1)
    (fits_sums t.info root h.level h.count room)
    (eqb h.placed 1 && (not t.by_id || eqb h.named 1))

-- the node of a live slot but for its children: its level, its records, its place on disk
unfoldable pub body_holds : Tree → ℕ → Head → List ℕ → Bool
body_holds t n h l =
    leb h.level 32
    && count_holds h.level h.count
    && records_stand t.order.code t.info (eqb h.level 0) h.count h.used l
    && place_holds t (eqb n t.root) h (room_of t.info (entries_of h.count l))

-- a child in a slot, as the words of the slots say
unfoldable pub child_stands : List ℕ → ℕ → ℕ → ℕ → Bool
child_stands heads used level c = ltb c used && not (eqb (head_at heads c).dead 1) && eqb ((head_at heads c).level + 1) level

-- a test, then what was marked
unfoldable pub if_holds : Bool → Result (List ℕ) → Result (List ℕ)
if_holds t r = cond t r (refused 1)

unfoldable pub link_value : List ℕ → ℕ → ℕ → Val → List ℕ → Result (List ℕ)
link_value heads used level ghost ms = ok ms
link_value heads used level (leaf v) ms = ok ms
link_value heads used level (disk r) ms = ok ms
link_value heads used level (mem c) ms = if_holds (child_stands heads used level c) (mark_value used (mem c) ms)

unfoldable pub link_entries : List ℕ → ℕ → ℕ → List Entry → List ℕ → Result (List ℕ)
link_entries heads used level [] ms = ok ms
link_entries heads used level (e ∷ es) ms = link_value heads used level e.value ms >>= link_entries heads used level es

-- slot n holds; unless it is dead, its node holds, and its children are marked
unfoldable pub hold_slot : ℕ → List ℕ → List ℕ → State → ℕ → ℕ → List ℕ → Result (List ℕ)
hold_slot size heads bytes s used n ms =
    if_holds
    (slot_holds size (head_at heads n) (slot_bytes size bytes n)
    && ((node_in size heads bytes n).dead || node_holds s n (node_in size heads bytes n)))
    (cond (node_in size heads bytes n).dead (ok ms) (mark_entries used (node_in size heads bytes n).entries ms))

-- every slot from n on, m of them
unfoldable pub hold_slots : ℕ → List ℕ → List ℕ → State → ℕ → ℕ → ℕ → List ℕ → Result (List ℕ)
hold_slots size heads bytes s used zero n ms = ok ms
hold_slots size heads bytes s used (suc m) n ms = hold_slot size heads bytes s used n ms >>= hold_slots size heads bytes s used m (suc n)
