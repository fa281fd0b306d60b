use Rattle.std.proofs.Common.{ap, ◌∙◌}
use Rattle.node.specs.Pack.{child_number, numbered_value}
use Rattle.node.specs.laws.pack.Steps.{key_room, value_room, entry_law, spot_law}
use Rattle.node.proofs.pack.put_entry.Goals as goal

pub copy_to-requires : goal.copy_to-requires
copy_to-requires c = key_room _ _ _ _ _ _ _ c.requires c.parts-p.ensures _ c.key.ensures

pub store-requires : goal.store-requires
store-requires c =
    let a = c.args.from in
    let w = c.numbered-value.ensures ∙ ap (numbered_value (child_number a.heads.now a.by_id)) c.value.ensures in
    value_room _ _ _ _ _ _ _ c.requires c.parts-p.ensures _ _ _ _ w c.padded-2.ensures.0 c.copy_to.auto.dst

pub returns : goal.returns
returns c =
    let a = c.args.from in
    let w = c.numbered-value.ensures ∙ ap (numbered_value (child_number a.heads.now a.by_id)) c.value.ensures in (
      entry_law _ _ _ _ _ _ _ c.requires c.parts-p.ensures _ _ _ _ _ _ _ _ c.key.ensures w c.copy_to.ensures c.store.ensures c.value_offset-vo.ensures c.put_slot.ensures,
      spot_law _ _ _ _ _ _ _ c.requires c.parts-p.ensures _ _ _ c.slot_width.ensures.0 c.padded.ensures.0 c.padded-2.ensures.0,
    )
