use Rattle.tree.specs.laws.slots.FoundAt.{key_found, key_absent}
use Rattle.tree.proofs.view.View.found_at.Goals as goal

pub returns-in-Ok : goal.returns-in-Ok
returns-in-Ok c =
    let p = c.records.ensures.place c.requires in
    key_found _ c.args.self.tree _ _ _ _ _ _ _ c.requires p.0 p.1 c.below.ensures _ _ c.of.ensures c.in-Ok.is

pub returns-in-Err : goal.returns-in-Err
returns-in-Err c =
    let p = c.records.ensures.place c.requires in
    key_absent _ c.args.self.tree _ _ _ _ _ _ _ c.requires p.0 p.1 c.below.ensures _ _ c.of-in-Err.ensures c.in-Err.is
