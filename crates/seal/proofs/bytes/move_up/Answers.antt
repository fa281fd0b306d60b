use mathlib.Core.Path.{sym, ap, ◌∙◌}
use native.Mathlib.Omega.{arith}
use native.Mathlib.Nat.{sub_self}
use borrow.Author.Rules.{rules}
use lib.ListN.{length-set}
use Rattle.seal.specs.Bytes.{moved}
use Rattle.seal.specs.laws.MoveLaws.{moved_none, turn_up, moved_done}
use Rattle.seal.proofs.bytes.move_up.Goals as goal

pub loop-k-init : goal.loop-k-init
loop-k-init c = (search rules, search rules, moved_none _ _ _ ∙ ap (moved _ _ _) (sym (sub_self _)))

pub loop-k-preserved : goal.loop-k-preserved
loop-k-preserved c =
    (search rules, simp length-set (omega arith), turn_up _ _ _ _ _ _ c.loop-k-test.true c.loop-k.invariant.0 c.loop-k.invariant.2 c.requires.0 c.requires.1)

pub returns : goal.returns
returns c = moved_done _ _ _ _ _ _ c.loop-k-test.false c.loop-k.invariant.2
