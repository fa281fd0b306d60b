use Rattle.std.proofs.Common.{rules, tests, true, false}
use Rattle.std.proofs.lemmas.Iterator.{first_from_Range}
use Rattle.node.specs.laws.read.Search.{Above, search_found}
use Rattle.node.proofs.read.ReadNode.not_above.Goals as goal

pub returns : goal.returns
returns c =
    let s = c.args.self in
    let is = Above s.node s.block.now c.args.order.code c.args.key.now in
    let found = first_from_Range _ _ _ c.find.result (λ i. is i true) (λ i. is i false) c.find.ensures.ran (λ x q k. search (rules, tests)) (λ x q k. search (rules, tests)) in
    let law = search_found s.node s.block.now c.args.order.code c.args.key.now c.find.result found in
    search (rules, law)
