use Rattle.std.proofs.Common.{rules, tests, refl, ◌∙◌, arith}
use Rattle.std.proofs.lemmas.Iterator.{YieldsList-from_range}
use Rattle.std.proofs.lemmas.Iterator.Search.{all_from_yields_List}
use Rattle.node.specs.Place.{place_of, lower_of, lent_key}
use Rattle.node.specs.Read.{entry_at, in_bounds}
use Rattle.node.specs.laws.read.Keys.{within_each}
use Rattle.node.proofs.read.ReadNode.bounds_hold.Goals as goal

pub returns-else-bounds_are_keys : goal.returns-else-bounds_are_keys
returns-else-bounds_are_keys c =
    let s = c.args.self in
    let p = c.args.place in
    all_from_yields_List (λ j. in_bounds c.args.order.code (place_of p) (lent_key (lower_of p)) (lent_key p.upper) (entry_at s.node s.block.now j).key)
    _ _ c.all.result c.all.ensures.ran (YieldsList-from_range 0 s.node.nkeys s.node.nkeys refl (omega arith)) (λ x b q k. search (rules, tests))
    ∙ within_each _ _ _ _ _ _ 0 s.node.nkeys
