-- Edits at work: what they leave, and the room that a cut finds.
use Rattle.std.specs.Prelude.{◌≡◌, List, [], ◌∷◌, false, ℕ, zero, suc, ◌+◌, ◌-◌, ◌*◌, ◌≤◌, ◌<◌, length, Result}
use Rattle.node.specs.Result.{ok}
use Rattle.node.specs.Find.{key_at}
use Rattle.node.specs.Fit.{Sized}
use Rattle.node.specs.Records.{records_of}
use Rattle.node.specs.declared.refusal.Refusal.{Refusal}
use Rattle.tree.specs.Lent as lent
use Rattle.tree.specs.State.{State, node_at}
use Rattle.tree.specs.Lookup.{Step}
use Rattle.tree.specs.Edit.{cuts}
pub use Rattle.tree.specs.Trusts.{Trusts, EditedCalled, RemovedCalled}
use Rattle.tree.specs.internal.Bank.{ReadyTree}
use Rattle.tree.specs.internal.Undo.{Follows}
use Rattle.tree.specs.internal.Index.{steps_from}
use Rattle.tree.specs.declared.editor.Tree.{Tree}
use Rattle.tree.specs.declared.editor.Position as code
use Rattle.tree.specs.internal.Way.{nth_step}

-- what an edit leaves: accepted, slots that are ready; either way, slots of which it can be told what they were when the call began
pub record EditedFrom (size slots used : ℕ) (heads bytes heads' bytes' : List ℕ) (r : Result Tree Refusal) : Type 0 where
  pub ready : ReadyTree size slots heads' bytes' r
  pub follows : Follows size slots used heads bytes heads' bytes'

-- ---- room for cuts

-- step j of a way, and the step above it, none above the root
unfoldable pub step_at : List code.Position → ℕ → Step
step_at way j = record { slot = (nth_step way j).slot; child = (nth_step way j).index }

unfoldable pub above_of : List code.Position → ℕ → List Step
above_of way zero = []
above_of way (suc j) = step_at way j ∷ []

-- the parent x of slot n holds it as a child, and has room for one entry more beside it if slot n is cut
pub record ParentFits (size : ℕ) (s : State) (x : Step) (n : ℕ) : Type 0 where
  pub apart : x.slot ≡ n → ⊥
  pub within : x.slot < length s.nodes
  pub alive : (node_at s x.slot).dead ≡ false
  pub child : x.child < length (node_at s x.slot).entries
  pub room : length (records_of (node_at s x.slot).entries) ≤ 2 * size + length (key_at (node_at s n).entries 0)

-- what a cut of slot n under its parent, none at the root, asks of the state
pub record CutFits (size : ℕ) (s : State) (up : List Step) (n : ℕ) : Type 0 where
  pub used : n < length s.nodes
  pub sized : Sized s.info
  pub node : s.info.node_size ≡ size
  pub parent : (x : Step) → up ≡ x ∷ [] → (node_at s n).dead ≡ false → ParentFits size s x n

-- the same at every cut of a way, of the state that the cuts below leave
pub record CutsFit (l : lent.Lent) (s : State) (way : List code.Position) : Type 0 where
  pub turn : (j : ℕ) → j < length way → (u : State) → cuts l (step_at way j ∷ []) (steps_from way (suc j) (length way - suc j)) s ≡ ok u
      → CutFits l.size u (above_of way j) (nth_step way j).slot
