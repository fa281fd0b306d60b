use Rattle.flush.specs.laws.CallLaws.{flush_passed, flush_leaves}
use Rattle.tree.specs.laws.refusal1.Ready.{called_ready}
use Rattle.flush.specs.Space.{space_of}
use Rattle.std.proofs.Common.{ap}
use mathlib.Core.Bool.{not}
use Rattle.flush.proofs.flush.flush.Goals as goal

pub flush_in-requires-clause-ready : goal.flush_in-requires-clause-ready
flush_in-requires-clause-ready c = let a = c.args in called_ready _ a.lent a.t _ _ _ c.lent_holds.ensures (ap not c.in_ok-check.ensures)

pub returns : goal.returns
returns c =
    let a = c.args in
    let e = c.lent_holds.ensures in
    let q = ap not c.in_ok-check.ensures in
    let y = c.flush_in in
    let x = y.ensures in
    record {
      answer = flush_passed a.lent a.t _ _ _ _ e q _ _ _ _ _ x.answer;
      left = flush_leaves a.lent a.t _ _ _ _ e q (called_ready _ a.lent a.t _ _ _ e q) y.new.image y.new.heads a.freed.now y.new.freed a.removed.now y.new.removed a.ids.now y.new.ids
          a.places.now y.new.places (space_of a.bitmap.now a.counts.now a.free.now) (space_of y.new.bitmap a.counts.now y.new.free) y.result x.left;
    }
