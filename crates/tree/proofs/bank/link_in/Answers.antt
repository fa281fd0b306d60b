use mathlib.Core.Path.{◌≡◌, refl, sym, ◌∙◌}
use Prim.Native.Nat.{◌+◌, ◌-◌, ◌*◌}
use native.Mathlib.Omega.{arith}
use Rattle.tree.specs.laws.slots.OneSlot.{slot_room, slot_used, slot_index, slot_child, part_is, link_put}
use borrow.Author.Rules.{rules}
use Rattle.tree.proofs.bank.link_in.Goals as goal

pub link_part-requires : goal.link_part-requires
link_part-requires c =
    let a = c.args in
    let p = c.requires in
    let k = a.n * (4 * a.lent.size) + 4 * a.lent.size - a.n * (4 * a.lent.size) in
    let ek : k ≡ 4 * a.lent.size = omega arith in
    let is = part_is _ _ _ k ek in
    let e = c.live_at-h.ensures in
    record { room = (slot_room _ _ _ _ _ _ p.ready p.entry.0.0 _ is _ e, slot_index _ _ _ _ _ _ p.ready p.entry.0.0 _ is _ e _ p.entry.0.1); old = slot_child _ _ _ _ _ _ p.ready p.entry.0.0 _ is _ e _ p.entry.1 }

pub returns : goal.returns
returns c =
    let a = c.args in
    let p = c.requires in
    let k = a.n * (4 * a.lent.size) + 4 * a.lent.size - a.n * (4 * a.lent.size) in
    let ek : k ≡ 4 * a.lent.size = omega arith in
    link_put _ _ _ _ _ _ p.ready p.entry.0.0 k ek _ c.live_at-h.ensures _ _ _ (c.link_part.ensures.0 ∙ sym (slot_used _ _ _ _ _ _ p.ready p.entry.0.0 _ (part_is _ _ _ k ek) _ c.live_at-h.ensures)) c.link_part.ensures.1 (search rules) _ refl
