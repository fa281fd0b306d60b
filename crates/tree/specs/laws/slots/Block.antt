-- Laws of a slot's node packed into a block. Assumes nothing.
use Rattle.std.specs.Prelude.{◌≡◌, refl, false, cond, List, map, Bool, true, ℕ, ◌<◌, eqb}
use Rattle.std.specs.Int.{from_bool}
use Rattle.std.proofs.Common.{◌∙◌}
use Rattle.node.specs.Bytes.{splice}
use Rattle.node.specs.Records.{entries_of}
use Rattle.node.specs.Fit.{fits}
use Rattle.node.specs.Pack.{pack_node, child_number, numbered}
use Rattle.tree.specs.State.{node_at}
use Rattle.tree.specs.Workspace.{state_of}
use Rattle.tree.specs.laws.slots.Tree.{node_in_lem}
use Rattle.tree.specs.internal.Bank.{node_in}
use Rattle.tree.specs.internal.Block.{packed_slot}
use Rattle.tree.specs.declared.editor.Tree.{Tree}

-- a truth value as a number
pub bool_number : (b : Bool) → from_bool b ≡ cond b 1 0
bool_number true = refl
bool_number false = refl

module _ (size n : ℕ) (t : Tree) (heads bytes : List ℕ) (hn : n < t.used)
    (level : ℕ) (el : level ≡ (node_at (state_of size t heads bytes) n).level) (count : ℕ) (l : List ℕ)
    (ee : (node_at (state_of size t heads bytes) n).entries ≡ entries_of count l) where
  pub block_fits : fits t.info (eqb n t.root) (node_in size heads bytes n).level (node_in size heads bytes n).entries ≡ true
      → fits t.info (eqb n t.root) level (entries_of count l) ≡ true
  block_fits f = rw (el, ← ee, node_in_lem size t heads bytes n hn) f

  pub block_packed : (dst dst' : List ℕ) (oid xid otype : ℕ)
      → dst' ≡ splice dst 0 (pack_node (record {
        oid = oid;
        xid = xid;
        otype = otype;
        subtype = t.subtype;
        level = level;
        root = eqb n t.root;
        info = t.info;
      }) (map (numbered (child_number heads t.by_id)) (entries_of count l)))
      → dst' ≡ splice dst 0 (packed_slot t size heads bytes n oid xid otype)
  unfolding packed_slot
  block_packed dst dst' oid xid otype q = q ∙ rw (el, ← ee, node_in_lem size t heads bytes n hn)
