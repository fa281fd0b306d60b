use Rattle.node.specs.laws.slot.Put.{child_put}
use Rattle.node.specs.laws.slot.Stored.{child_length}
use Rattle.node.proofs.record.put_value.Goals as goal

pub returns-in-Child : goal.returns-in-Child
returns-in-Child c =
    let h = rw (c.in-Child.is, child_length) at c.requires in
    child_put _ _ _ _ _ _ _ _ _ c.in-Child.is h c.put_start-in-Child.ensures c.mark.ensures c.number.ensures c.put_field.ensures
