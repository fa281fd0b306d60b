-- A remove that changes an entry of its leaf and nothing else: the way stays as it is.
use Rattle.std.specs.Prelude.{◌≡◌, List, true, false, ℕ, zero, suc, ◌<◌, Option, Some, None}
use Rattle.node.specs.Result.{ok}
use Rattle.node.specs.Order.{keyed, same_key}
use Rattle.node.specs.Entry.{mem}
use Rattle.node.specs.Find.{key_at, val_at, way_index}
use Rattle.tree.specs.Lent as lent
use Rattle.tree.specs.State.{State, node_at}
use Rattle.tree.specs.Remove.{has_only_child, removed}
use Rattle.tree.specs.Workspace.{state_of}
use Rattle.tree.specs.internal.Bank.{Ready}
use Rattle.tree.specs.internal.Cutting.{stays_whole}
use Rattle.tree.specs.declared.editor.Tree.{Tree}
use Rattle.tree.specs.declared.loaded.Taken.{Taken}

-- a node of a way that needs no cut and, in a physical tree, no dirty mark
pub record Settled (s : State) (n : ℕ) : Type 0 where
  pub whole : stays_whole s n ≡ true
  pub dirty : s.virtual ≡ false → (node_at s n).dirty ≡ true

-- slot n is settled, the child in slot c that a key goes on by is loaded, and its index key is its first key
pub record GoesOn (s : State) (k : List ℕ) (n c : ℕ) : Type 0 where
  pub child : val_at (node_at s n).entries (way_index s.order k (node_at s n).entries) ≡ mem c
  pub same : same_key (key_at (node_at s n).entries (way_index s.order k (node_at s n).entries)) (key_at (node_at s c).entries 0) ≡ true
  pub settled : Settled s n

-- what is taken, if anything is, goes on so
pub record StillOf (s : State) (k : List ℕ) (n : ℕ) (r : Option Taken) : Type 0 where
  pub on : (t : Taken) → r ≡ Some t → GoesOn s k n t.slot

pub record StillBy (s : State) (k : List ℕ) (n : ℕ) (P : ℕ → Type 0) : Type 0 where
  pub slot : ℕ
  pub on : GoesOn s k n slot
  pub below : P slot

-- a key's way, d levels down from slot n, ends in slot m and goes on so at every step
abbrev pub StillTo : ℕ → State → List ℕ → ℕ → ℕ → Type 0
StillTo zero s k m n = n ≡ m
StillTo (suc d) s k m n = StillBy s k n (StillTo d s k m)

-- a slot, if there is one, is in use, the way from the root ends in it, and the key is one of the tree's order
pub record StillLeaf (used : ℕ) (s : State) (k : List ℕ) (r : Option ℕ) : Type 0 where
  pub within : (m : ℕ) → r ≡ Some m → m < used
  pub keys : (m : ℕ) → r ≡ Some m → keyed s.order k ≡ true
  pub leads : (m : ℕ) → r ≡ Some m → StillTo (node_at s s.root).level s k m s.root

-- entry i of leaf n can be taken out, and nothing above it changes: its first entry stays, leaf and root are dirty, a key is counted, and the root
-- keeps its place
pub record StaysAbove (s : State) (n i : ℕ) : Type 0 where
  pub later : 0 < i
  pub leaf : (node_at s n).dirty ≡ true
  pub root : (node_at s s.root).dirty ≡ true
  pub keys : 0 < s.info.key_count
  pub more : has_only_child s ≡ false

-- a remove that was made so is the remove, whatever is lent; one that was not wrote nothing
abbrev pub StillRemoved : ℕ → ℕ → Tree → List ℕ → List ℕ → List ℕ → List ℕ → List ℕ → Option Tree → Type 0
StillRemoved size slots t heads bytes heads' bytes' k None = (heads' ≡ heads) × (bytes' ≡ bytes)
StillRemoved size slots t heads bytes heads' bytes' k (Some u) =
    ((l : lent.Lent) → ok (record { state = state_of size u heads' bytes'; present = true }) ≡ removed l (state_of size t heads bytes) k)
    × (keyed t.order.code k ≡ true) × Ready size slots u.used heads' bytes'
