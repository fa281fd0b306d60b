use Rattle.node.specs.Slot.{value_means}
use Rattle.node.specs.laws.slot.Relink.{link_room, relink_entries, relink_starts}
use Rattle.node.specs.laws.slot.Stored.{new_child}
use Rattle.node.proofs.slot.relink.Goals as goal

pub store-requires : goal.store-requires
unfolding value_means
store-requires c =
    let p = c.requires in
    link_room _ _ _ _ _ _ p.place.0 p.place.1 p.place.2 p.old (new_child _) p.new c.parts-v.ensures

pub returns : goal.returns
unfolding value_means
returns c =
    let p = c.requires in
    record {
      entries = relink_entries _ _ _ _ _ _ p.place.0 p.place.1 p.place.2 p.old (new_child _) p.new c.parts-v.ensures _ _ _ c.store.ensures c.mark.ensures c.put_field.ensures;
      starts = relink_starts _ _ _ _ _ _ p.place.0 p.place.1 p.place.2 p.old (new_child _) p.new c.parts-v.ensures _ _ _ c.store.ensures c.mark.ensures c.put_field.ensures;
    }
