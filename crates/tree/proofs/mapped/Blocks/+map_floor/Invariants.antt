use Rattle.tree.proofs.mapped.Blocks.+map_floor.Given as goal

abbrev pub decreases-map_floor : goal.decreases-map_floor
decreases-map_floor l = l.level
