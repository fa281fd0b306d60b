use Rattle.std.proofs.Common.{rules, arith, ◌^◌, ◌∙◌}
use Rattle.std.specs.Int.{div_ceil}
use Rattle.std.specs.List.{range_with_len}
use Rattle.std.proofs.lemmas.Iterator.{YieldsList-from_range, YieldsList-from_map}
use Rattle.std.proofs.lemmas.Iterator.Consumers.{YieldsList-at, sum_by_from_yields_List, fits_by_from_yields_list}
use Rattle.flush.specs.laws.SpaceSteps.{zeros_most, zeros_of, zeros_all}
use Rattle.flush.proofs.space.zeros.Goals as goal

pub sum-requires-clause-fits : goal.sum-requires-clause-fits
sum-requires-clause-fits c =
    let a = c.args in
    let f = zeros_of a.bitmap.now a.n a.a in
    let m = div_ceil a.n 8 in
    let z = zeros_all a.bitmap.now a.n a.a c.requires.0 in
    fits_by_from_yields_list f (range_with_len 0 m) _ (2 ^ 64)
    (YieldsList-from_map _ f (YieldsList-at c.map.ensures.source (YieldsList-from_range 0 m m (search rules) (omega arith))) c.map.ensures.closure (λ x r q k. search rules))
    (rw z (omega (arith, zeros_most a.bitmap.now a.n a.a, c.ranges.n)))

pub returns : goal.returns
returns c =
    let a = c.args in
    let f = zeros_of a.bitmap.now a.n a.a in
    let m = div_ceil a.n 8 in
    let z = sum_by_from_yields_List f (range_with_len 0 m) _ _ c.sum.ensures.ran
    (YieldsList-from_map _ f (YieldsList-at c.map.ensures.source (YieldsList-from_range 0 m m (search rules) (omega arith))) c.map.ensures.closure (λ x r q k. search rules))
    ∙ zeros_all a.bitmap.now a.n a.a c.requires.0 in
    (z, omega (arith, z, zeros_most a.bitmap.now a.n a.a))
