use Rattle.tree.specs.laws.slots.Records.{key_found}
use Rattle.tree.proofs.view.View.key_at.Goals as goal

pub returns-in-Some : goal.returns-in-Some
returns-in-Some c =
    let g = c.in-Some.ensures in
    key_found _ _ _ c.records.ensures.entries _ _ g.0 _ g.1 g.2 _ c.key.ensures
