use Rattle.tree.proofs.editor.Tree.+last_from.Given as goal

abbrev pub decreases-last_from : goal.decreases-last_from
decreases-last_from l = l.d
