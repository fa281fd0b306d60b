use mathlib.Core.Path.{refl}
use native.Mathlib.Omega.{arith}
use Rattle.tree.specs.laws.cut.Part.{at_below, part_source, part_target, part_state, part_ready, part_follows}
use borrow.Author.Rules.{rules}
use Rattle.tree.proofs.editor.Tree.part_in.Goals as goal

pub overflow_sub-rest : goal.overflow_sub-rest
overflow_sub-rest c =
    at_below _ _ _ _ _ c.args.self _ _ _ c.requires.ready_2 c.requires.used_lt_slots.0 c.requires.used_lt_slots.1.slot c.live_at-h.ensures c.requires.used_lt_slots.1.upto c.requires.used_lt_slots.1.start

pub overflow_add-spot : goal.overflow_add-spot
overflow_add-spot c =
    omega (arith, part_source _ _ _ _ _ c.args.self _ _ _ c.requires.ready_2 c.requires.used_lt_slots.0 c.requires.used_lt_slots.1.slot c.live_at-h.ensures c.requires.used_lt_slots.1.upto c.requires.used_lt_slots.1.start, part_target _ _ _ _ _ c.args.self _ _ _ c.requires.ready_2 c.requires.used_lt_slots.0 c.requires.used_lt_slots.1.slot c.live_at-h.ensures c.requires.used_lt_slots.1.upto c.requires.used_lt_slots.1.start)

pub shift-requires : goal.shift-requires
shift-requires c =
    let p = c.requires in
    let a = part_source _ _ _ _ _ c.args.self _ _ _ p.ready_2 p.used_lt_slots.0 p.used_lt_slots.1.slot c.live_at-h.ensures p.used_lt_slots.1.upto p.used_lt_slots.1.start in
    let b = part_target _ _ _ _ _ c.args.self _ _ _ p.ready_2 p.used_lt_slots.0 p.used_lt_slots.1.slot c.live_at-h.ensures p.used_lt_slots.1.upto p.used_lt_slots.1.start in
    omega arith

pub returns : goal.returns
returns c =
    let u = rw (c.with_id.ensures, c.with_block.ensures) at c.store.ensures in
    record { after = part_state _ _ _ _ _ _ c.args.self _ _ _ _ _ _ _ c.requires.ready_2 c.requires.used_lt_slots.0 c.requires.used_lt_slots.1.slot c.live_at-h.ensures c.requires.used_lt_slots.1.upto c.requires.used_lt_slots.1.start refl c.shift.ensures u c.store-2.ensures refl; ready = part_ready _ _ _ _ _ _ c.args.self _ _ _ _ _ _ _ c.requires.ready_2 c.requires.used_lt_slots.0 c.requires.used_lt_slots.1.slot c.live_at-h.ensures c.requires.used_lt_slots.1.upto c.requires.used_lt_slots.1.start refl c.shift.ensures u c.store-2.ensures refl (search rules) (search rules); follows = part_follows _ _ _ _ _ _ c.args.self _ _ _ _ _ _ _ c.requires.ready_2 c.requires.used_lt_slots.0 c.requires.used_lt_slots.1.slot c.live_at-h.ensures c.requires.used_lt_slots.1.upto c.requires.used_lt_slots.1.start refl c.shift.ensures u c.store-2.ensures refl c.requires.fact }
