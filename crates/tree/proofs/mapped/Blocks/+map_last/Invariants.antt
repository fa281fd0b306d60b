use Rattle.tree.proofs.mapped.Blocks.+map_last.Given as goal

abbrev pub decreases-map_last : goal.decreases-map_last
decreases-map_last l = l.level
