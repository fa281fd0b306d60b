-- Remove at work: nodes dropped on a way, the leaf's entry taken out by its place, the root's place handed down.
use Rattle.std.specs.Prelude.{◌≡◌, List, [], true, ◌&&◌, ℕ, ◌-◌, ◌*◌, ◌≤◌, ◌<◌, length, leb, ltb, Ok, Err}
use Rattle.std.specs.Prelude as std
use Rattle.node.specs.declared.refusal.Refusal.{Refusal}
use Rattle.node.specs.Result.{Result, ok, ◌>>=◌, ◌>>◌, check}
use Rattle.node.specs.Refusals as refusal
use Rattle.node.specs.Find.{place_of}
use Rattle.node.specs.Slot.{remove_at}
use Rattle.tree.specs.Lent as lent
use Rattle.tree.specs.Lent.{lent_of}
use Rattle.tree.specs.State.{State, node_at, put_node, with_info, with_counts, with_entries, changed, marked_dead}
use Rattle.tree.specs.Trust.{trusted}
use Rattle.tree.specs.Lookup.{Step, Way, way, leaf_of}
use Rattle.tree.specs.Edit.{touch, index_keys, cuts}
use Rattle.tree.specs.Remove.{Dropped, drop_emptied, leveled_root, handed_down, hand_down}
use Rattle.tree.specs.Workspace.{state_of}
use Rattle.tree.specs.internal.Bank.{Ready}
use Rattle.tree.specs.internal.Undo.{Follows}
use Rattle.tree.specs.internal.Room.{Roomy}
use Rattle.tree.specs.internal.Index.{Rewritten, steps_from}
use Rattle.tree.specs.declared.editor.Tree.{Tree}
use Rattle.tree.specs.declared.lent.Lent.{Lent}
use Rattle.tree.specs.declared.editor.Position as code
use Rattle.tree.specs.internal.Way.{nth_step}

-- ---- nodes dropped

abbrev pub dead_put : State → ℕ → State
dead_put s n = put_node s n (marked_dead (node_at s n))

-- slot c is dead, and slot n loses child i
abbrev pub child_dropped : State → ℕ → ℕ → ℕ → State
child_dropped s n i c = put_node (dead_put s c) n (changed (node_at s n) (remove_at i (node_at s n).entries))

-- slot n has a child i, which is in another slot
pub record DropFits (s : State) (n i c : ℕ) : Type 0 where
  pub apart : n ≡ c → ⊥
  pub child : i < length (node_at s n).entries

-- the same at every step of a way, of the state that the drops below leave
pub record DropRoom (s : State) (way : List code.Position) : Type 0 where
  pub turn : (j : ℕ) → 0 < j → j < length way
      → DropFits (drop_emptied (steps_from way j (length way - j)) s).state (nth_step way (j - 1)).slot (nth_step way (j - 1)).index
      (nth_step way j).slot

-- the slots are what drops leave, and so many nodes were dropped
pub record Emptied (size slots : ℕ) (t : Tree) (heads bytes heads' bytes' : List ℕ) (d : Dropped) (dropped : ℕ) : Type 0 where
  pub rest : Rewritten size slots t heads bytes heads' bytes' d.state
  pub count : dropped ≡ d.nodes

-- ---- the edit, by the place of the key in its leaf

-- a way touched, entry i of its leaf taken out
unfoldable pub taken_on : ℕ → List Step → State → State
taken_on i ps s =
    let t : State = touch ps s in
    let n : ℕ = leaf_of ps in
    put_node t n (with_entries (node_at t n) (remove_at i (node_at t n).entries))

-- of `shrunk_on`, what comes before the index keys
unfoldable pub shrunk_at : ℕ → Way → Result State
shrunk_at i w =
    let s : State = w.state in
    let d : Dropped = drop_emptied w.steps (taken_on i w.steps s) in
    check refusal.count (ltb 0 s.info.key_count && leb d.nodes s.info.node_count)
    >> ok (leveled_root (with_info d.state (with_counts s.info (s.info.key_count - 1) (s.info.node_count - d.nodes))))

-- `remove_on`
unfoldable pub removed_at : lent.Lent → ℕ → Way → Result State
removed_at l i w =
    shrunk_at i w
    >>= λ s. cuts l [] w.steps (index_keys w.steps s)
    >>= λ t. hand_down (node_at t t.root).level l t

-- the way to a key, in slots that are trusted, and the key's place in its leaf
pub record OnWay (l : lent.Lent) (s : State) (ps : List Step) (i : ℕ) : Type 0 where
  pub from : State
  pub key : List ℕ
  pub trust : trusted l from ≡ true
  pub roomy : Roomy (2 * l.size) from
  pub came : way l from key ≡ ok (record { state = s; steps = ps })
  pub place : i ≡ place_of s.order key (node_at s (leaf_of ps)).entries

-- an accepted edit that takes no slot
abbrev pub SameUsed : ℕ → std.Result Tree Refusal → Type 0
SameUsed used (Err x) = Unit {0}
SameUsed used (Ok t) = t.used ≡ used

-- ---- the root's place

-- slot c has the root's place now
pub record Handed (size slots : ℕ) (t : Tree) (heads bytes heads' bytes' : List ℕ) (c : ℕ) (r : Tree) : Type 0 where
  pub state : state_of size r heads' bytes' ≡ handed_down (state_of size t heads bytes) c
  pub ready : Ready size slots r.used heads' bytes'
  pub follows : Follows size slots t.used heads bytes heads' bytes'
  pub same : r.used ≡ t.used

-- the root's place went down some levels: what d more leave is what n leave of the first tree
pub record Handing (image : List ℕ) (l : Lent) (t₀ : Tree) (heads₀ bytes₀ : List ℕ) (n : ℕ) (t : Tree) (heads bytes : List ℕ) (d : ℕ) : Type 0 where
  pub ready : Ready l.size l.slots t.used heads bytes
  pub trust : trusted (lent_of image l) (state_of l.size t heads bytes) ≡ true
  pub more : t₀.used ≤ t.used
  pub follows : Follows l.size l.slots t₀.used heads₀ bytes₀ heads bytes
  pub rest : hand_down d (lent_of image l) (state_of l.size t heads bytes) ≡ hand_down n (lent_of image l) (state_of l.size t₀ heads₀ bytes₀)
