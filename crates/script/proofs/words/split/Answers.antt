use Rattle.std.proofs.Common.{rules, tests, arith, eqb}
use Rattle.std.proofs.lemmas.Grind.{common_steps}
use Rattle.std.proofs.lemmas.Iterator.Consumers.{YieldsList-at, YieldsList-turn, YieldsList-end}
use Rattle.std.proofs.lemmas.Iterator.Splits.{YieldsList-from_slice_split}
use Rattle.script.specs.Words.{words_of}
use Rattle.script.proofs.words.split.Goals as goal

pub returns-in_err-push : goal.returns-in_err-push
unfolding words_of
returns-in_err-push c =
    let turn = YieldsList-turn
    (YieldsList-at c.into_iter-w-iterator.ensures.into_iter_gives
    (YieldsList-from_slice_split _ (λ b. eqb b 32) c.args.s.now c.split-w-items.ensures.rest c.split-w-items.ensures.done c.split-w-items.ensures.closure (λ x b q k. search (rules, tests))))
    c.loop-w.yielded _ c.loop-w.yielded_by _ _ _ c.in-Some.is c.next.ensures.steps in
    rw c.from_residual.ensures (grind (arith, common_steps, turn))

pub returns : goal.returns
unfolding words_of
returns c =
    let all = YieldsList-end
    (YieldsList-at c.into_iter-w-iterator.ensures.into_iter_gives
    (YieldsList-from_slice_split _ (λ b. eqb b 32) c.args.s.now c.split-w-items.ensures.rest c.split-w-items.ensures.done c.split-w-items.ensures.closure (λ x b q k. search (rules, tests))))
    c.loop-w.yielded _ c.loop-w.yielded_by _ _ c.in-None.is c.next.ensures.steps in
    search (rules, all)
