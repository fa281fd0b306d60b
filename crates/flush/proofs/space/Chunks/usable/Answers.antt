use Rattle.std.proofs.Common.{rules, arith, refl, length, ◌^◌, ◌∙◌}
use Rattle.std.specs.List.{range_with_len}
use Rattle.std.proofs.lemmas.Iterator.{YieldsList-from_range, YieldsList-from_map}
use Rattle.std.proofs.lemmas.Iterator.Consumers.{YieldsList-at, sum_by_from_yields_List, fits_by_from_yields_list}
use Rattle.flush.specs.laws.SpaceSteps.{usable_of, usable_all, usable_fits}
use Rattle.flush.proofs.space.Chunks.usable.Goals as goal

pub sum-sum-requires-clause-fits : goal.sum-sum-requires-clause-fits
sum-sum-requires-clause-fits c =
    let s = c.args.self in
    let u = usable_of s.size s.bitmap.now s.counts.now s.free.now in
    fits_by_from_yields_list u (range_with_len 0 (length s.counts.now)) _ (2 ^ 64)
    (YieldsList-from_map _ u (YieldsList-at c.map.ensures.source (YieldsList-from_range 0 (length s.counts.now) (length s.counts.now) refl (omega arith))) c.map.ensures.closure (λ x r q k. search rules))
    (rw (usable_all _ _ _ _ s.held) (usable_fits _ _ _ _ s.held))

pub returns : goal.returns
returns c =
    let s = c.args.self in
    let u = usable_of s.size s.bitmap.now s.counts.now s.free.now in
    sum_by_from_yields_List u (range_with_len 0 (length s.counts.now)) _ _ c.sum-sum.ensures.ran
    (YieldsList-from_map _ u (YieldsList-at c.map.ensures.source (YieldsList-from_range 0 (length s.counts.now) (length s.counts.now) refl (omega arith))) c.map.ensures.closure (λ x r q k. search rules))
    ∙ usable_all _ _ _ _ s.held
