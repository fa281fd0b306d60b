-- Cuts at work: the step above as the code keeps it, refusals by numbers, a child linked, a root that has no entries yet.
use Rattle.std.specs.Prelude.{◌≡◌, List, [], Bool, false, cond, ◌||◌, ℕ, suc, ◌+◌, ◌-◌, ◌*◌, ◌^◌, ◌≤◌, ◌<◌, length, leb, eqb, Option, Ok, Err, option_to_list, option_map, ⊤}
use Rattle.std.specs.Prelude as std
use Rattle.node.specs.Result.{ok}
use Rattle.node.specs.Entry.{mem}
use Rattle.node.specs.Find.{key_at}
use Rattle.node.specs.Fit.{fits}
use Rattle.node.specs.Cut.{cut}
use Rattle.node.specs.Records.{records_of, records_length}
use Rattle.node.specs.Slot.{MemNode, insert_at}
use Rattle.tree.specs.Lent.{lent_of}
use Rattle.tree.specs.State.{State, node_at, put_node, add_node, with_root, with_counts, changed, with_place, made}
use Rattle.tree.specs.Lookup.{Step}
use Rattle.tree.specs.Edit.{cuts}
use Rattle.tree.specs.Workspace.{slot_bytes, state_of}
use Rattle.tree.specs.internal.Bank.{Ready}
use Rattle.tree.specs.internal.Undo.{Follows}
use Rattle.tree.specs.internal.Index.{steps_from}
use Rattle.tree.specs.internal.Edits.{above_of}
use Rattle.tree.specs.declared.editor.Tree.{Tree}
use Rattle.tree.specs.declared.lent.Lent.{Lent}
use Rattle.node.specs.declared.refusal.Refusal.{Refusal}
use Rattle.node.specs.declared.refusal.Refusal.TheVariants as is
use Rattle.tree.specs.declared.editor.Position as code

-- the step above a node; none above the root
abbrev pub step_of : code.Position → Step
step_of u = record { slot = u.slot; child = u.index }

unfoldable pub up_of : Option code.Position → List Step
up_of u = option_to_list (option_map step_of u)

-- 17 and 11: whether count and slots have room for n nodes made
unfoldable pub room_of : ℕ → ℕ → ℕ → ℕ → std.Result ⊤ Refusal
room_of count used slots n = cond (leb (count + n) (2 ^ 64 - 1)) (cond (leb (used + n) slots) (Ok tt) (Err is.NoSlot)) (Err is.Count)

-- a tree with so many nodes more in its node count
unfoldable pub counted : Tree → ℕ → Tree
counted t n =
    record {
      root = t.root;
      used = t.used;
      info = with_counts t.info t.info.key_count (t.info.node_count + n);
      by_id = t.by_id;
      subtype = t.subtype;
      order = t.order;
      xid = t.xid;
    }

-- slot n needs no cut: it is dead, or it fits
abbrev pub stays_whole : State → ℕ → Bool
stays_whole s n = (node_at s n).dead || fits s.info (eqb n s.root) (node_at s n).level (node_at s n).entries

-- ---- a child linked

-- the length of a slot's first key
abbrev pub first_length : State → ℕ → ℕ
first_length s c = length (key_at (node_at s c).entries 0)

-- before entry i of slot n, the child in slot c under its first key; slot n is dirty
abbrev pub child_put : State → ℕ → ℕ → ℕ → State
child_put s n i c =
    put_node s n (changed (node_at s n) (insert_at i (record { key = key_at (node_at s c).entries 0; value = mem c }) (node_at s n).entries))

-- what that asks of the state: a place, and room for the record in the slot and for the key in the scratch
pub record ChildFits (size : ℕ) (s : State) (n i c scratch : ℕ) : Type 0 where
  pub used : n < length s.nodes
  pub alive : (node_at s n).dead ≡ false
  pub index : i ≤ length (node_at s n).entries
  pub child : c < length s.nodes
  pub room : length (records_of (node_at s n).entries) + (4 + first_length s c + 8) ≤ 4 * size
  pub short : first_length s c < 2 ^ 16
  pub copied : first_length s c ≤ scratch

-- ---- a new root

-- the next slot, without entries, one level above slot n, takes its id and block and is the root
unfoldable pub root_added : State → ℕ → State
root_added s n =
    let m : MemNode = node_at s n in
    let top : MemNode = with_place (made (suc m.level) []) m.block m.id in
    with_root (add_node (put_node s n (with_place m [] [])) top) (length s.nodes)

-- what a new root above slots n and r asks of the state
pub record RootFits (size : ℕ) (s : State) (n r scratch : ℕ) : Type 0 where
  pub left : n < length s.nodes
  pub right : r < length s.nodes
  pub level : (node_at s n).level < 32
  pub room : (4 + first_length s n + 8) + (4 + first_length s r + 8) ≤ 4 * size
  pub left_short : first_length s n < 2 ^ 16
  pub right_short : first_length s r < 2 ^ 16
  pub left_copied : first_length s n ≤ scratch
  pub right_copied : first_length s r ≤ scratch

-- ---- a cut

-- slot n is cut after so many entries; the right part starts at byte `at` of the slot
pub record CutIs (size : ℕ) (t : Tree) (heads bytes : List ℕ) (n place at : ℕ) : Type 0 where
  pub alive : (node_at (state_of size t heads bytes) n).dead ≡ false
  pub found : cut t.info (node_at (state_of size t heads bytes) n).level (node_at (state_of size t heads bytes) n).entries ≡ ok place
  pub start : at ≡ records_length place (slot_bytes size bytes n)

-- the cuts of a way are made from step j on
pub record CutFrom (l : Lent) (t : Tree) (way : List code.Position) (j : ℕ) (heads bytes : List ℕ) (u : Tree) (heads' bytes' : List ℕ) : Type 0 where
  pub state : cuts (lent_of [] l) (above_of way j) (steps_from way j (length way - j)) (state_of l.size t heads bytes)
      ≡ ok (state_of l.size u heads' bytes')
  pub more : t.used ≤ u.used
  pub ready : Ready l.size l.slots u.used heads' bytes'
  pub follows : Follows l.size l.slots t.used heads bytes heads' bytes'
