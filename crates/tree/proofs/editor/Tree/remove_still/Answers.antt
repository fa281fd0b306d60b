use native.Mathlib.Omega.{arith}
use borrow.Author.Tests.{not-false}
use Rattle.tree.specs.laws.slots.FoundAt.{found_here, found_spot}
use Rattle.tree.specs.laws.remove.LeafAloneSteps.{still_answer, still_ready, leaf_used, leaf_keyed, above_keys}
use mathlib.Core.Path.{refl}
use Rattle.tree.specs.State.{with_counts}
use Rattle.std.proofs.Common.{ap}
use mathlib.Core.Bool.{not}
use Rattle.tree.proofs.editor.Tree.remove_still.Goals as goal

pub take_at-requires : goal.take_at-requires
take_at-requires c =
    let q = rw c.in_ok-n.was at c.still_leaf_of.ensures in
    let f = found_here _ _ _ _ _ _ _ c.found_at.ensures _ c.ok.ensures.value _ c.in_ok-spot.was in
    record { ready = c.requires.ready; place = found_spot _ _ _ _ _ _ _ (leaf_used _ _ _ _ _ _ q) _ f }

pub overflow_sub-self : goal.overflow_sub-self
overflow_sub-self c =
    omega (arith, above_keys _ _ _ _ _ _ (c.still_above.ensures (not-false _ (ap not c.if-not-still_above.false))))

pub returns : goal.returns
unfolding with_counts
returns c =
    let p = c.requires in
    let q = rw c.in_ok-n.was at c.still_leaf_of.ensures in
    let f = found_here _ _ _ _ _ _ _ c.found_at.ensures _ c.ok.ensures.value _ c.in_ok-spot.was in
    let a = c.still_above.ensures (not-false _ (ap not c.if-not-still_above.false)) in
    let w = c.take_at in
    let t = rw f.slot at w.ensures in (
      (λ l. still_answer _ _ _ _ _ _ _ p.ready p.bytes_value.0 (leaf_used _ _ _ _ _ _ q) q _ f a _ _ w.auto.heads w.auto.bytes t _ refl l),
      leaf_keyed _ _ _ _ _ _ q,
      still_ready _ _ _ _ _ _ _ p.ready p.bytes_value.0 (leaf_used _ _ _ _ _ _ q) q _ f a _ _ w.auto.heads w.auto.bytes t,
    )
