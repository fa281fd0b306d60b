use Rattle.std.proofs.Common.{◌≡◌, ◌∙◌}
use Rattle.std.specs.Slice.Iter.{chunks_rest}
use Rattle.script.specs.laws.OutLaws.{gathers_none, gathers_both, hex_append, hex_end}
use Rattle.script.proofs.out.Out.hex.Goals as goal

pub loop-part-init : goal.loop-part-init
loop-part-init g c =
    let all : chunks_rest c.into_iter-part-iterator.result ≡ c.args.s.now = rw c.into_iter-part-iterator.ensures.into_iter_gives c.chunks-part-items.ensures.rest in
    record {
      size = rw c.into_iter-part-iterator.ensures.into_iter_gives c.chunks-part-items.ensures.size;
      shown = λ p q. rw all at q;
    }

pub loop-part-preserved : goal.loop-part-preserved
loop-part-preserved g c =
    let step = c.in-Some.ensures.steps in
    record {
      size = step.0 ∙ c.loop-part.invariant.size;
      shown = λ p q. c.loop-part.invariant.shown p (rw (step.1.0, hex_append) (gathers_both c.hex_part.ensures q));
    }

pub returns : goal.returns
returns g c = c.loop-part.invariant.shown c.loop-part.self (rw (hex_end _ c.in-None.ensures.steps.1.0) (gathers_none c.loop-part.self))
