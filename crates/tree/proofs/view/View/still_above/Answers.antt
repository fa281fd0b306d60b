use Rattle.std.proofs.Common.{rules, tests, ◌∙◌, sym}
use Rattle.tree.specs.laws.remove.LeafAloneSteps.{above_is}
use Rattle.tree.proofs.view.View.still_above.Goals.{then-i-ne0, else-i-ne0, then-dirty_at, else-dirty_at, then-dirty_at-2, else-dirty_at-2}
use Rattle.tree.proofs.view.View.still_above.Goals as goal

pub returns-then-self-ne0 : goal.returns-then-self-ne0
returns-then-self-ne0 c = λ q. elim c.if-dirty_at-2.branch [
  | then-dirty_at-2 z ↦ elim c.if-dirty_at.branch [
    | then-dirty_at y ↦ elim c.if-i-ne0.branch [
      | then-i-ne0 x ↦
          above_is _ _ _ _ _ _ c.requires.0 c.requires.1 x.if-i-ne0.true _ _ x.dirty_at.ensures (sym x.value-is ∙ y.if-dirty_at.true)
          y.dirty_at-then-dirty_at.ensures (sym y.value-is ∙ z.if-dirty_at-2.true) _ z.value-is c.if-self-ne0.true _ c.has_only_child.ensures q
      | else-i-ne0 x ↦ search (rules, tests)
    ]
    | else-dirty_at y ↦ search (rules, tests)
  ]
  | else-dirty_at-2 z ↦ search (rules, tests)
]
