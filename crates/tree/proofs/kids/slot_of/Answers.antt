use Rattle.tree.specs.laws.slots.Kids.{kid_mem}
use Rattle.tree.proofs.kids.slot_of.Goals as goal

pub returns-in-Mem : goal.returns-in-Mem
returns-in-Mem c = kid_mem _ _ c.child.ensures _ c.in_ok-s.was _ c.in-Mem.is
