use Rattle.tree.specs.laws.slots.Records.{entries_none, records_few, slot_short}
use Rattle.tree.specs.laws.slots.OneSlot.{slot_room}
use Rattle.node.specs.Records.{entries_of, records_length}
use Rattle.std.specs.Prelude.{◌<◌}
use native.Mathlib.Omega.{arith}
use Rattle.tree.proofs.view.View.records.Goals as goal

pub invariant_of-result : goal.invariant_of-result
unfolding records_length
invariant_of-result c = record { within = omega arith }

pub returns-then-self-n-clause-entries : goal.returns-then-self-n-clause-entries
unfolding entries_of
returns-then-self-n-clause-entries c = entries_none _ c.args.self.tree _ _ _ c.if-self-n.true

pub invariant_of-result-2 : goal.invariant_of-result-2
invariant_of-result-2 c =
    record { within = slot_room _ _ _ _ _ _ c.args.self.ready (omega (arith, c.if-self-n.false)) _ c.slot_of.ensures.slot _ c.live_at-h.ensures }

pub returns-clause-room : goal.returns-clause-room
returns-clause-room c =
    let h = c.live_at-h.ensures in
    let n : c.args.n < c.args.self.tree.used = omega (arith, c.if-self-n.false) in
    (records_few _ c.args.self.tree _ _ _ n _ h _ c.args.self.ready, slot_short _ _ _ _ _ _ c.args.self.ready n _ c.slot_of.ensures.slot)
