-- The way as the code keeps it: its steps.
use Rattle.std.specs.Prelude.{◌≡◌, List, [], ◌∷◌, ◌++◌, ℕ, zero, suc, ◌-◌, ◌≤◌, ◌<◌, length, take, get_or, Ok, Err}
use Rattle.std.specs.Prelude as std
use Rattle.std.specs.Borrow.{Bor}
use Rattle.std.specs.Iterator.Adapters.{rev_source}
use Rattle.std.specs.Slice.ArrayWindows.{array_windows_parts}
use Rattle.std.specs.Slice.Iter.{windows_rest}
use Rattle.std.specs.declared.iter.Rev.{Rev}
use Rattle.std.specs.declared.slice.ArrayWindows.{ArrayWindows}
use Rattle.node.specs.Result.{Result, ok, refused, ◌>>=◌}
use Rattle.node.specs.Refusals.{number_of}
use Rattle.node.specs.declared.refusal.Refusal.{Refusal}
use Rattle.tree.specs.Lookup as lookup
use Rattle.tree.specs.Edit as edit
use Rattle.tree.specs.internal.Bank.{Ready}
use Rattle.tree.specs.internal.Steps.{positions}
use Rattle.tree.specs.internal.Undo.{Follows}
use Rattle.tree.specs.Workspace.{state_of}
use Rattle.tree.specs.declared.way.Way.{Way}
use Rattle.tree.specs.declared.editor.Position as code
use Rattle.tree.specs.declared.editor.Tree.{Tree}

-- step j
abbrev pub nth_step : List code.Position → ℕ → code.Position
nth_step way j = get_or way j (record { slot = 0; index = 0 })

-- the first k steps
unfoldable pub steps_of : List code.Position → ℕ → List lookup.Step
steps_of way zero = []
steps_of way (suc k) = steps_of way k ++ record { slot = (nth_step way k).slot; child = (nth_step way k).index } ∷ []

-- all steps
abbrev pub steps_in : List code.Position → List lookup.Step
steps_in way = steps_of way (length way)

-- the steps that a walk of a way's pairs, each step with the one below it and the lowest first, has left
abbrev pub steps_left : Rev (ArrayWindows code.Position 2) → List code.Position
steps_left s = windows_rest (array_windows_parts (rev_source s))

-- they are the first ones of the way, and at least one where the way has any
pub record PairsOf (way : List code.Position) (s : Rev (ArrayWindows code.Position 2)) : Type 0 where
  pub rest : steps_left s ≡ take (length (steps_left s)) way
  pub within : length (steps_left s) ≤ length way
  pub some : 0 < length way → 0 < length (steps_left s)

-- a turn of that walk: the last two of the steps that it had left, of which the upper one is still left
pub record PairTaken (way : List code.Position) (s t : Rev (ArrayWindows code.Position 2)) (w : Bor (List code.Position)) : Type 0 where
  pub some : 2 ≤ length (steps_left s)
  pub left : length (steps_left t) ≡ length (steps_left s) - 1
  pub next : PairsOf way t
  pub above : nth_step w.now 0 ≡ nth_step way (length (steps_left s) - 1 - 1)
  pub below : nth_step w.now 1 ≡ nth_step way (length (steps_left s) - 1)

-- a way that the code walked
unfoldable pub walked_of : ℕ → List ℕ → List ℕ → Way → lookup.Way
walked_of size heads bytes w = record { state = state_of size w.tree heads bytes; steps = steps_in (positions w.steps) }

unfoldable pub way_of : ℕ → List ℕ → List ℕ → std.Result Way Refusal → Result lookup.Way
way_of size heads bytes (Err x) = refused (number_of x)
way_of size heads bytes (Ok w) = ok (walked_of size heads bytes w)

-- steps put before a way
unfoldable pub onto : List lookup.Step → Result lookup.Way → Result lookup.Way
onto xs r = r >>= λ w. ok (record { state = w.state; steps = xs ++ w.steps })

-- the slots of a way are in use
pub record WayIn (used : ℕ) (way : List code.Position) : Type 0 where
  pub slot : (j : ℕ) → j < length way → (nth_step way j).slot < used

-- the first j slots of a way are marked dirty
pub record Dirtied (size slots : ℕ) (t : Tree) (way : List code.Position) (j : ℕ) (heads bytes heads' bytes' : List ℕ) : Type 0 where
  pub state : state_of size t heads' bytes' ≡ edit.mark_way (steps_of way j) (state_of size t heads bytes)
  pub ready : Ready size slots t.used heads' bytes'
  pub follows : Follows size slots t.used heads bytes heads' bytes'

-- a way is touched
pub record Touched (size slots : ℕ) (t : Tree) (way : List code.Position) (heads bytes heads' bytes' : List ℕ) : Type 0 where
  pub state : state_of size t heads' bytes' ≡ edit.touch (steps_in way) (state_of size t heads bytes)
  pub ready : Ready size slots t.used heads' bytes'
  pub follows : Follows size slots t.used heads bytes heads' bytes'
