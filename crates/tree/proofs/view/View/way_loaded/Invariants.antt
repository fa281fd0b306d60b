use Rattle.tree.specs.internal.View.{seen}
use mathlib.Core.Path.{◌≡◌}
use Prim.Native.Nat.{◌-◌}
use lib.ListN.{length}
use Rattle.tree.specs.internal.Steps.{positions}
use Rattle.tree.specs.internal.Way.{steps_in}
use Rattle.tree.specs.internal.Loaded.{Onward}
use Rattle.tree.proofs.view.View.way_loaded.Given as goal

abbrev pub invariant-loop-k : goal.invariant-loop-k
invariant-loop-k l = record {
  taken : length (positions l.steps) ≡ l._k;
  onward : Onward (seen l.self) l.level l.key (steps_in (positions l.steps)) (l.level - l._k) l.n;
}
