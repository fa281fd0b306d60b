use borrow.Author.Tests.{leb-true}
use Rattle.tree.specs.laws.lookup.GetLeaf.{copy_ghost, copy_ghost_same, copy_value_out}
use Rattle.tree.proofs.view.View.copy_out.Goals as goal

pub returns-in_default-held-clause-answer : goal.returns-in_default-held-clause-answer
returns-in_default-held-clause-answer c =
    copy_ghost _ c.args.self.tree _ _ _ _ _ _ _ c.records-records.ensures.entries _ c.held_in.ensures _ c.in-Some.is c.in_default-held.not-Leaf c.requires.n_value

pub returns-in_default-held-clause-output : goal.returns-in_default-held-clause-output
returns-in_default-held-clause-output c =
    copy_ghost_same _ c.args.self.tree _ _ _ _ _ _ _ c.records-records.ensures.entries _ c.held_in.ensures _ c.in-Some.is c.in_default-held.not-Leaf c.requires.n_value

pub returns-clause-output : goal.returns-clause-output
returns-clause-output c =
    copy_value_out _ c.args.self.tree _ _ _ _ _ _ _ c.records-records.ensures.entries _ c.held_in.ensures _ c.in-Some.is _ c.in-Leaf.is (leb-true _ _ c.in_ok-check.ensures) _ c.copy_to.ensures
