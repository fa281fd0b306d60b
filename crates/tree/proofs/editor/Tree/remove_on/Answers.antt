use Rattle.node.specs.laws.base.Bytes.{Bytes, bytes_known}
use native.Mathlib.Omega.{arith}
use Rattle.tree.specs.laws.remove.Steps.{on_some, on_in, on_root, on_drops, on_ready, on_still, on_index, on_cuts, on_trust, on_done, on_back, on_follows}
use borrow.Author.Rules.{rules}
use Rattle.tree.proofs.editor.Tree.remove_on.Goals as goal

pub shrink-requires-clause-ready : goal.shrink-requires-clause-ready
shrink-requires-clause-ready c =
    let p = c.requires in
    let a = c.args in
    (p.ready, on_in a.image.now a.lent a.self _ _ a.way.now a.spot.index p.way)

pub shrink-requires-clause-steps : goal.shrink-requires-clause-steps
shrink-requires-clause-steps c =
    let p = c.requires in
    let a = c.args in
    (on_some a.image.now a.lent a.self _ _ a.way.now a.spot.index p.way, on_root a.image.now a.lent a.self _ _ a.way.now a.spot.index p.way)

pub shrink-requires-clause-room : goal.shrink-requires-clause-room
shrink-requires-clause-room c =
    let p = c.requires in
    let a = c.args in
    on_drops a.image.now a.lent a.self _ _ a.way.now a.spot.index p.way

pub index_keys-requires-clause-ready : goal.index_keys-requires-clause-ready
index_keys-requires-clause-ready c =
    let p = c.requires in
    let a = c.args in
    let s = c.shrink.ensures in
    (on_ready a.image.now a.lent a.self _ _ a.way.now a.spot.index p.way _ _ _ s.answer _ c.in_ok-t.was s.left.ready s.used, on_still a.image.now a.lent a.self _ _ a.way.now a.spot.index p.way _ _ _ s.answer _ c.in_ok-t.was s.left.ready s.used)

pub index_keys-requires-clause-room : goal.index_keys-requires-clause-room
index_keys-requires-clause-room c =
    let p = c.requires in
    let a = c.args in
    let s = c.shrink.ensures in
    let b : Bytes c.shrink.new.bytes = search (rules, bytes_known) in
    on_index a.image.now a.lent a.self _ _ a.way.now a.spot.index p.way _ _ _ s.answer _ c.in_ok-t.was s.left.ready s.used b _ p.room

pub cuts-requires-clause-room : goal.cuts-requires-clause-room
cuts-requires-clause-room c =
    let p = c.requires in
    let a = c.args in
    let s = c.shrink.ensures in
    let k = c.index_keys in
    (on_cuts a.image.now a.lent a.self _ _ a.way.now a.spot.index p.way _ _ _ s.answer _ c.in_ok-t.was s.left.ready s.used _ _ k.ensures, omega (arith, p.room, k.auto))

pub hand_down-requires-clause-trust : goal.hand_down-requires-clause-trust
hand_down-requires-clause-trust c =
    let p = c.requires in
    let a = c.args in
    let s = c.shrink.ensures in
    on_trust a.image.now a.lent a.self _ _ a.way.now a.spot.index p.way _ _ _ s.answer _ c.in_ok-t.was s.left.ready s.used _ _ c.index_keys.ensures _ _ _ c.cuts.ensures.answer _ c.in_ok-u.was

pub returns-clause-answer : goal.returns-clause-answer
returns-clause-answer c =
    let p = c.requires in
    let a = c.args in
    let s = c.shrink.ensures in
    on_done a.image.now a.lent a.self _ _ a.way.now a.spot.index p.way _ _ _ s.answer _ c.in_ok-t.was s.left.ready s.used _ _ c.index_keys.ensures _ _ _ c.cuts.ensures.answer _ c.in_ok-u.was _ _ c.level_at-level.ensures c.hand_down.ensures.answer

pub returns-clause-left : goal.returns-clause-left
returns-clause-left c =
    let p = c.requires in
    let a = c.args in
    let s = c.shrink.ensures in
    let k = c.index_keys.ensures in
    let d = c.cuts.ensures in
    record {
      ready = c.hand_down.ensures.left.ready;
      follows = on_back a.image.now a.lent a.self _ _ a.way.now a.spot.index p.way _ _ _ s.answer _ c.in_ok-t.was s.left.ready s.used _ _ k _ _ _ d.answer _ c.in_ok-u.was _ _
          (on_follows a.image.now a.lent a.self _ _ a.way.now a.spot.index p.way _ _ _ s.answer _ c.in_ok-t.was s.left.ready s.used _ _ k _ _ _ d.answer s.left.follows d.left.follows) c.hand_down.ensures.left.follows;
    }
