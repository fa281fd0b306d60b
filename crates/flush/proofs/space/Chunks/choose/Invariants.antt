use mathlib.Core.Path.{◌≡◌}
use lib.ListN.{drop}
use Rattle.flush.specs.Space.{choose_from, choose, space_of}
use Rattle.flush.proofs.space.Chunks.choose.Given as goal

abbrev pub invariant-loop-c : goal.invariant-loop-c
invariant-loop-c l = choose_from l.self.bitmap.now l.self.size l.c (drop l.c l.self.counts.now) (drop l.c l.self.free.now) ≡ choose l.self.size (space_of l.self.bitmap.now l.self.counts.now l.self.free.now)
