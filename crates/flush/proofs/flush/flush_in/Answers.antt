use Rattle.flush.specs.laws.CallLaws.{long_are, in_done, finished_beyond}
use Rattle.std.proofs.Common.{sym}
use Rattle.flush.proofs.flush.flush_in.Goals as goal

pub write_all-requires-clause-long : goal.write_all-requires-clause-long
write_all-requires-clause-long c =
    let a = c.args in
    let p = c.requires in
    long_are a.lent a.t _ _ _ p.ready p.bytes_value _ _ _ _ _ _ c.lists_hold-holds.ensures c.in_ok-check.ensures

pub returns : goal.returns
returns c =
    let a = c.args in
    let p = c.requires in
    let x = c.write_all.ensures in
    let k = x.kept in
    let ef = c.freed-1.given.1.1 (sym k.freed.reference) in
    let er = c.removed-1.given.1.1 (sym k.removed.reference) in
    let ei = c.ids-1.given.1.1 (sym k.ids.reference) in
    let ep = c.places-1.given.1.1 (sym k.places.reference) in
    record {
      answer = rw (ef, er, ei, ep) (in_done a.lent a.t _ _ _ p.ready p.bytes_value _ _ _ _ _ _ c.lists_hold-holds.ensures c.in_ok-check.ensures _ _ _ c.short_of.ensures _ c.in_ok-short_of.was _ _ _ _ _ _ _ _ x.flushed);
      left = rw (ef, er, ei, ep) (
        finished_beyond _ _ _ _ _ _ _ _ _ _ _ _ _ _ _ x.left k.freed.long k.removed.long k.ids.long k.places.long,
        x.left.ready,
        x.left.alike,
      );
    }
