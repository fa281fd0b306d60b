use mathlib.Core.Path.{◌≡◌, ◌∙◌}
use Rattle.flush.specs.laws.ListLaws.{push_most, past_push, places_next, names_next, reported}
use borrow.Author.Rules.{rules}
use Rattle.flush.proofs.flush.Reports.list_dead.Goals as goal

pub loop-n-preserved : goal.loop-n-preserved
loop-n-preserved c =
    let i = c.loop-n.invariant in (
      search rules,
      push_most _ _ _ _ _ _ i.1 c.push-f.ensures,
      push_most _ _ _ _ _ _ i.2 c.push-r.ensures,
      record {
        freed = record { reference = i.3.freed.reference; long = search (rules, c.push-f.auto) ∙ i.3.freed.long };
        removed = record { reference = i.3.removed.reference; long = search (rules, c.push-r.auto) ∙ i.3.removed.long };
        ids = i.3.ids;
        places = i.3.places;
      },
      places_next _ _ _ _ _ _ _ _ _ c.loop-n-test.true c.live_at-h.ensures c.if-h-ne1.false c.block.ensures c.push-f.ensures i.4,
      names_next _ _ _ _ _ _ _ _ _ _ c.loop-n-test.true c.live_at-h.ensures c.if-h-ne1.false c.removed_id.ensures c.push-r.ensures i.5,
      past_push _ _ _ _ _ _ i.6 c.push-f.ensures,
      past_push _ _ _ _ _ _ i.7 c.push-r.ensures,
      i.8,
    )

pub returns-clause-listed : goal.returns-clause-listed
returns-clause-listed c =
    let i = c.loop-n.invariant in
    let z : c.default.result ≡ record { next = 0; freed = 0; removed = 0; moved = 0; allocated = 0 } = search rules in
    rw (i.8, z) (reported _ _ _ _ _ _ _ _ _ _ _ c.loop-n-test.false i.0 i.1 i.2 i.4 i.5 i.6 i.7)
