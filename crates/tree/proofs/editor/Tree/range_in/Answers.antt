use Rattle.tree.specs.laws.lookup.RangeCall.{way_in}
use Rattle.tree.specs.laws.lookup.RangeLeaves.{ranged_undone, ranged_left}
use borrow.Author.Rules.{rules}
use Rattle.std.proofs.Common.{◌∙◌}
use Rattle.tree.proofs.editor.Tree.range_in.Goals as goal

pub returns-clause-answer : goal.returns-clause-answer
returns-clause-answer c =
    let (h, b, h', b', s, p, u) = c.undone.ensures in
    ranged_undone c.args.lent c.args.self _ _ h'.now b'.now _ _ _ _ u
    ∙ search rules
    ∙ way_in _ c.args.lent c.args.self _ _ _ _ _ c.keyed.ensures c.in_ok-check.ensures _ c.keyed-2.ensures c.in_ok-check-2.ensures _ h.now b.now s.0

pub returns-clause-left : goal.returns-clause-left
returns-clause-left c =
    let (h, b, h', b', s, p, u) = c.undone.ensures in
    ranged_left c.args.lent c.args.self _ _ h'.now b'.now _ _ _ _ _ _ _ _ c.requires.trusts u (returns-clause-answer c) (search rules)
