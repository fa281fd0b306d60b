use Rattle.node.specs.laws.base.Bytes.{bytes_known, bytes_take, bytes_drop}
use Rattle.node.specs.laws.read.Read.{part_window}
use Rattle.tree.proofs.map.block_of.Goals as goal

pub returns : goal.returns
returns c = (part_window _ _ _, bytes_take _ _ (bytes_drop _ _ (bytes_known _ c.type_inv.image)))
