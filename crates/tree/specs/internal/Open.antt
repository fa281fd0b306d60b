-- What opening a tree answers, of the slots.
use Rattle.std.specs.Prelude.{ℕ, length, leb}
use Rattle.node.specs.Result.{Result, ok, ◌>>=◌, ◌>>◌, check}
use Rattle.node.specs.Refusals as refusal
use Rattle.tree.specs.Lent as lent
use Rattle.tree.specs.State.{State}
use Rattle.tree.specs.Load as load
use Rattle.tree.specs.Lookup.{opened_at}
pub use Rattle.tree.specs.Trusts.{OpenedTrusts}

-- of `opened`, what follows the root's address
unfoldable pub opened_root : lent.Lent → ℕ → ℕ → ℕ → ℕ → Result State
opened_root l r order xid a = do
  d ← load.load_block l order (load.root_place r) load.unbounded a
  check refusal.root (load.root_holds l a (leb 1 (length l.map)) d)
  ok (opened_at l order xid a d)
