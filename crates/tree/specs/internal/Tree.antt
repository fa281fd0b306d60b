-- What the values of the code mean, of a bank.
use Rattle.std.specs.Prelude.{List, [], ◌∷◌, ℕ, ◌<◌, Option, Some, None, Ok, Err, IfSome}
use Rattle.std.specs.Prelude as std
use Rattle.std.specs.Borrow.{Bor}
use Rattle.node.specs.Result.{Result, ok, refused, ◌>>=◌}
use Rattle.node.specs.Find.{key_at}
use Rattle.node.specs.Read.{OnDisk}
use Rattle.tree.specs.Lent as lent
use Rattle.tree.specs.State.{State, node_at}
use Rattle.tree.specs.Workspace.{state_of}
use Rattle.tree.specs.Load as load
use Rattle.tree.specs.internal.Brought.{brought}
use Rattle.tree.specs.declared.editor.Position.{Position}
use Rattle.tree.specs.declared.editor.Tree.{Tree}
use Rattle.node.specs.Refusals.{number_of}
use Rattle.node.specs.declared.refusal.Refusal.{Refusal}
use Rattle.tree.specs.declared.editor.Bounds.{Bounds}

unfoldable pub bound_of : State → Option Position → List (List ℕ)
bound_of s None = []
bound_of s (Some b) = key_at (node_at s b.slot).entries b.index ∷ []

unfoldable pub bounds_of : State → Bounds Position → load.Bounds
bounds_of s b = record { lower = bound_of s b.lower; upper = bound_of s b.upper }

-- the same of bounds whose keys are lent
unfoldable pub edge_of : Option (Bor (List ℕ)) → List (List ℕ)
edge_of None = []
edge_of (Some k) = k.now ∷ []

unfoldable pub edges_of : Bounds (Bor (List ℕ)) → load.Bounds
edges_of b = record { lower = edge_of b.lower; upper = edge_of b.upper }

-- a bound, if it is one, is of a slot in use
abbrev pub BoundIn : ℕ → Option Position → Type 0
BoundIn used b = IfSome b (λ x. x.slot < used)

pub record BoundsIn (used : ℕ) (b : Bounds Position) : Type 0 where
  pub lower : BoundIn used b.lower
  pub upper : BoundIn used b.upper

-- the block at address a, read as the child r of slot n, within bounds
unfoldable pub read_child : lent.Lent → State → load.Bounds → ℕ → ℕ → ℕ → Result OnDisk
read_child l s cs n r a =
    load.load_block l s.order (load.child_place s.info.key_size s.info.val_size cs (node_at s n).level r) cs a

-- the child r read at address a, within bounds, and brought
unfoldable pub fetched_at : lent.Lent → State → load.Bounds → ℕ → ℕ → ℕ → ℕ → Result load.At
fetched_at l s cs n i r a = read_child l s cs n r a >>= λ d. ok (brought s n i d a)

unfoldable pub loaded_of : ℕ → List ℕ → List ℕ → std.Result (Tree × ℕ) Refusal → Result load.At
loaded_of size heads bytes (Err x) = refused (number_of x)
loaded_of size heads bytes (Ok (t, c)) = ok (record { state = state_of size t heads bytes; slot = c })
