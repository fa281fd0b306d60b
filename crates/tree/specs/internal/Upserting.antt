-- An upsert at work: the way that it has gone.
use Rattle.std.specs.Prelude.{◌≡◌, List, true, ℕ, ◌*◌}
use Rattle.node.specs.Result.{ok}
use Rattle.std.specs.Coded.{Unit-prop, le_prop}
use Rattle.node.specs.Entry.{Val, ghost, leaf, disk, mem}
use Rattle.node.specs.internal.Storable.{Held}
use Rattle.tree.specs.Lent.{lent_of}
use Rattle.tree.specs.State.{State}
use Rattle.tree.specs.Lookup as lookup
use Rattle.tree.specs.Upsert.{entry_fits}
use Rattle.tree.specs.Trust.{trusted}
use Rattle.tree.specs.Workspace.{state_of}
use Rattle.tree.specs.internal.Bank.{Ready}
use Rattle.tree.specs.internal.Room.{Roomy}
use Rattle.tree.specs.internal.Way.{steps_in}
use Rattle.tree.specs.declared.editor.Tree.{Tree}
use Rattle.tree.specs.declared.lent.Lent.{Lent}
use Rattle.tree.specs.declared.editor.Position as code

-- that a record can hold a value is a fact: it has one proof
pub held_once : (v : Val) → IsProp (Held v)
held_once ghost = Unit-prop
held_once (leaf v) = le_prop
held_once (disk r) = le_prop
held_once (mem s) = le_prop

-- the slots in use and the steps taken, as a way
abbrev pub way_gone : ℕ → Tree → List ℕ → List ℕ → List code.Position → lookup.Way
way_gone size t heads bytes way = record { state = state_of size t heads bytes; steps = steps_in way }

-- the steps are the way to a key that was gone from slots to be trusted, into which the entry fits
pub record Gone (l : Lent) (t : Tree) (heads bytes : List ℕ) (way : List code.Position) (key : List ℕ) (v : Val) : Type 0 where
  pub image : List ℕ
  pub from : State
  pub trust : trusted (lent_of image l) from ≡ true
  pub roomy : Roomy (2 * l.size) from
  pub fits : entry_fits from key v ≡ true
  pub went : lookup.way (lent_of image l) from key ≡ ok (way_gone l.size t heads bytes way)
  pub ready : Ready l.size l.slots t.used heads bytes
