use Rattle.tree.proofs.editor.Tree.+floor_from.Given as goal

abbrev pub decreases-floor_from : goal.decreases-floor_from
decreases-floor_from l = l.d
