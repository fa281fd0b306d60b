use Rattle.tree.specs.laws.slots.Block.{block_packed}
use Rattle.tree.proofs.view.View.pack_slot.Goals as goal

pub returns : goal.returns
returns c =
    block_packed _ _ _ _ _ c.requires.sized.1 _ c.level_at.ensures _ _ c.records.ensures.entries _ _ _ _ _ c.pack.ensures
