use mathlib.Core.Path.{refl}
use Rattle.tree.specs.laws.remove.Shrink.{leaf_index, leaf_start, taken_is, shrunk_done, shrunk_used, shrunk_ready, shrunk_follows}
use native.Mathlib.Omega.{arith}
use Rattle.tree.specs.State.{with_counts}
use Rattle.tree.proofs.editor.Tree.shrink.Goals as goal

pub remove_at-requires : goal.remove_at-requires
remove_at-requires c =
    let args = c.args in
    let pre = c.requires in
    let touch = c.touch in
    let spot = pre.leaf.1 in
    let e = pre.leaf.0 in
    record {
      ready = touch.ensures.ready;
      place = record {
        slot = spot.slot;
        index = rw e (leaf_index _ _ args.spot.index args.self _ _ _ _ _ pre.ready.0 pre.ready.1 pre.steps.0 touch.ensures (rw e at spot.index));
        start = rw e (leaf_start _ _ args.spot.index args.self _ _ _ _ _ pre.ready.0 pre.ready.1 pre.steps.0 touch.ensures (rw e at spot.index) _ (rw e at spot.start));
      };
    }

pub returns : goal.returns
unfolding with_counts
returns c =
    let args = c.args in
    let pre = c.requires in
    let touch = c.touch in
    let remove_at_lem = c.remove_at in
    let drop-emptied = c.drop_emptied-dropped in
    let level-root = c.level_root in
    let (some, less) = rw c.in_ok-self.ensures.ok_part at c.checked_sub.ensures in
    let (enough, fewer) = rw c.in_ok-self-2.ensures.ok_part at c.checked_sub-2.ensures in
    record { answer = shrunk_done _ _ _ args.self _ _ _ _ _ (taken_is _ _ args.spot.index args.self _ _ _ _ _ pre.ready.0 pre.ready.1 pre.steps.0 touch.ensures _ _ remove_at_lem.auto.heads remove_at_lem.auto.bytes (rw pre.leaf.0 at remove_at_lem.ensures.put) remove_at_lem.ensures.follows) _ _ _ drop-emptied.ensures (λ z. omega (arith, some, z)) (omega (arith, enough)) _ _ (rw (less, fewer) refl) refl _ _ level-root.ensures; used = shrunk_used _ _ _ args.self _ _ _ _ _ (taken_is _ _ args.spot.index args.self _ _ _ _ _ pre.ready.0 pre.ready.1 pre.steps.0 touch.ensures _ _ remove_at_lem.auto.heads remove_at_lem.auto.bytes (rw pre.leaf.0 at remove_at_lem.ensures.put) remove_at_lem.ensures.follows) _ _ _ drop-emptied.ensures (λ z. omega (arith, some, z)) (omega (arith, enough)) _ _ (rw (less, fewer) refl) refl _ _ level-root.ensures; left = record { ready = shrunk_ready _ _ _ args.self _ _ _ _ _ (taken_is _ _ args.spot.index args.self _ _ _ _ _ pre.ready.0 pre.ready.1 pre.steps.0 touch.ensures _ _ remove_at_lem.auto.heads remove_at_lem.auto.bytes (rw pre.leaf.0 at remove_at_lem.ensures.put) remove_at_lem.ensures.follows) _ _ _ drop-emptied.ensures (λ z. omega (arith, some, z)) (omega (arith, enough)) _ _ (rw (less, fewer) refl) refl _ _ level-root.ensures; follows = shrunk_follows _ _ _ args.self _ _ _ _ _ (taken_is _ _ args.spot.index args.self _ _ _ _ _ pre.ready.0 pre.ready.1 pre.steps.0 touch.ensures _ _ remove_at_lem.auto.heads remove_at_lem.auto.bytes (rw pre.leaf.0 at remove_at_lem.ensures.put) remove_at_lem.ensures.follows) _ _ _ drop-emptied.ensures (λ z. omega (arith, some, z)) (omega (arith, enough)) _ _ (rw (less, fewer) refl) refl _ _ level-root.ensures } }
