use Rattle.replay.proofs.walk.Walk.+below.Given as goal

abbrev pub decreases-below : goal.decreases-below
decreases-below g l = l.d
