-- The steps of a way: so many of an array's first.
use Rattle.std.specs.Prelude.{List, take}
use Rattle.tree.specs.declared.editor.Position.{Position}
use Rattle.tree.specs.declared.steps.Steps.{Steps}

unfoldable pub positions : Steps → List Position
positions s = take s.count s.all
