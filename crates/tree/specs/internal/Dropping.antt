-- An object map's drop and put at work: the removes of a drop; the put that follows a drop.
use Rattle.std.specs.Prelude.{◌≡◌, List, ℕ, ◌≤◌, length, drop}
use Rattle.node.specs.Result.{Result, ◌>>=◌}
use Rattle.node.specs.Entry.{Entry, leaf}
use Rattle.tree.specs.Lent as lending
use Rattle.tree.specs.Lent.{lent_of}
use Rattle.tree.specs.State.{State}
use Rattle.tree.specs.Upsert.{upserted}
use Rattle.tree.specs.Omap.{remove_all, dropped}
use Rattle.tree.specs.Workspace.{state_of}
use Rattle.tree.specs.internal.Undo.{Follows}
use Rattle.tree.specs.internal.Edits.{Trusts}
use Rattle.tree.specs.declared.editor.Tree.{Tree}
use Rattle.tree.specs.declared.lent.Lent.{Lent}

-- an id's versions dropped, then one entry put
unfoldable pub put_anew : lending.Lent → State → ℕ → List ℕ → List ℕ → Result State
put_anew l s id k v = dropped l s id >>= λ t. upserted l t k (leaf v)

-- i of the entries es are removed: t, its words and bytes are as the removes left them. The removes that are left answer as all did at first
pub record Removing (image : List ℕ) (l : Lent) (es : List Entry) (t₀ : Tree) (heads₀ bytes₀ : List ℕ) (t : Tree) (heads bytes : List ℕ) (i : ℕ)
    : Type 0 where
  pub words : length heads ≡ length heads₀
  pub room : length bytes ≡ length bytes₀
  pub trusts : Trusts image l t heads bytes
  pub rest : remove_all (lent_of image l) (drop i es) (state_of l.size t heads bytes)
      ≡ remove_all (lent_of image l) es (state_of l.size t₀ heads₀ bytes₀)
  pub more : t₀.used ≤ t.used
  pub follows : Follows l.size l.slots t₀.used heads₀ bytes₀ heads bytes
