-- Index keys as the code sets them.
use Rattle.std.specs.Prelude.{◌≡◌, List, [], ◌∷◌, Bool, false, cond, not, ℕ, zero, suc, ◌+◌, ◌-◌, ◌*◌, ◌^◌, ◌≤◌, ◌<◌, length, leb, eqb}
use Rattle.node.specs.Order.{same_key}
use Rattle.node.specs.Find.{key_at}
use Rattle.node.specs.Cut as cutting
use Rattle.node.specs.Slot.{head_at, with_key}
use Rattle.tree.specs.State.{State, node_at, put_node, changed}
use Rattle.tree.specs.Lookup.{Step}
use Rattle.tree.specs.Edit.{index_keys}
use Rattle.tree.specs.Workspace.{state_of}
use Rattle.tree.specs.internal.Bank.{live, Ready}
use Rattle.tree.specs.internal.Undo.{Follows}
use Rattle.tree.specs.declared.editor.Tree.{Tree}
use Rattle.tree.specs.declared.editor.Position as code
use Rattle.tree.specs.internal.Way.{nth_step}

-- whether the index key of child i of slot n is another than the first key of slot c; not where either is not there
unfoldable pub key_differs : State → ℕ → ℕ → ℕ → Bool
key_differs s n i c =
    cond (eqb (length (node_at s c).entries) 0) false
    (cond (leb (length (node_at s n).entries) i) false (not (same_key (key_at (node_at s n).entries i) (key_at (node_at s c).entries 0))))

-- entry i of slot n with another key; the slot is dirty
abbrev pub key_put : State → ℕ → ℕ → List ℕ → State
key_put s n i k = put_node s n (changed (node_at s n) (with_key i k (node_at s n).entries))

-- the slots in use are another state now; they are ready, and what they can go back to is as it was
pub record Rewritten (size slots : ℕ) (t : Tree) (heads bytes heads' bytes' : List ℕ) (s : State) : Type 0 where
  pub state : state_of size t heads' bytes' ≡ s
  pub ready : Ready size slots t.used heads' bytes'
  pub follows : Follows size slots t.used heads bytes heads' bytes'

-- the first key of slot c fits into slot n beside its records, into a record, and into so many bytes
pub record KeyRoom (size : ℕ) (t : Tree) (heads bytes : List ℕ) (n c scratch : ℕ) : Type 0 where
  pub slot : (live (head_at heads n)).used + length (key_at (node_at (state_of size t heads bytes) c).entries 0) ≤ 4 * size
  pub short : length (key_at (node_at (state_of size t heads bytes) c).entries 0) < 2 ^ 16
  pub copied : length (key_at (node_at (state_of size t heads bytes) c).entries 0) ≤ scratch

-- the same, said of the state: a record takes four bytes less than `size` counts for its entry
pub record KeyFits (size : ℕ) (s : State) (n c scratch : ℕ) : Type 0 where
  pub slot : cutting.size (node_at s n).entries + length (key_at (node_at s c).entries 0) ≤ 4 * size + 4 * length (node_at s n).entries
  pub short : length (key_at (node_at s c).entries 0) < 2 ^ 16
  pub copied : length (key_at (node_at s c).entries 0) ≤ scratch

-- the steps of a way from step j on, m of them
unfoldable pub steps_from : List code.Position → ℕ → ℕ → List Step
steps_from way j zero = []
steps_from way j (suc m) = record { slot = (nth_step way j).slot; child = (nth_step way j).index } ∷ steps_from way (suc j) m

-- each index key on a way fits where it is set
pub record IndexRoom (size : ℕ) (t : Tree) (heads bytes : List ℕ) (way : List code.Position) (scratch : ℕ) : Type 0 where
  pub turn : (j : ℕ) → 0 < j → j < length way → KeyFits size (index_keys (steps_from way j (length way - j)) (state_of size t heads bytes))
      (nth_step way (j - 1)).slot (nth_step way j).slot scratch

-- the index keys are set from step j on
pub record Indexed (size slots : ℕ) (t : Tree) (way : List code.Position) (j : ℕ) (heads bytes heads' bytes' : List ℕ) : Type 0 where
  pub rest : Rewritten size slots t heads bytes heads' bytes' (index_keys (steps_from way j (length way - j)) (state_of size t heads bytes))
