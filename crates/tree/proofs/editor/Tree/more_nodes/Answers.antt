use mathlib.Core.Path.{refl}
use Rattle.tree.specs.State.{with_counts}
use Rattle.tree.specs.internal.Cutting.{counted}
use Rattle.tree.proofs.editor.Tree.more_nodes.Goals as goal

pub returns : goal.returns
unfolding counted with_counts
returns c = refl
