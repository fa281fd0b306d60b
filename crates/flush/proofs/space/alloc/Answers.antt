use borrow.Author.Rules.{rules}
use Rattle.flush.specs.laws.SpaceSteps.{block_mapped, chunk_in, chunk_some, alloc_taken}
use Rattle.flush.proofs.space.alloc.Goals as goal

pub mark_used-requires : goal.mark_used-requires
mark_used-requires c = block_mapped _ _ _ _ _ _ _ c.requires c.choose.ensures c.in_ok-choice.was

pub offset_bounds-free-choice : goal.offset_bounds-free-choice
offset_bounds-free-choice c =
    let i = chunk_in _ _ _ _ _ _ _ c.requires c.choose.ensures c.in_ok-choice.was in search (rules, i)

pub bounds-free-choice : goal.bounds-free-choice
bounds-free-choice c = chunk_in _ _ _ _ _ _ _ c.requires c.choose.ensures c.in_ok-choice.was

pub overflow_sub-free : goal.overflow_sub-free
overflow_sub-free c =
    let i = chunk_some _ _ _ _ _ _ _ c.requires c.choose.ensures c.in_ok-choice.was in search (rules, i)

pub bounds-free-choice-2 : goal.bounds-free-choice-2
bounds-free-choice-2 c = chunk_in _ _ _ _ _ _ _ c.requires c.choose.ensures c.in_ok-choice.was

pub returns-clause-after : goal.returns-clause-after
returns-clause-after c = alloc_taken _ _ _ _ _ _ _ c.requires c.choose.ensures c.in_ok-choice.was _ c.mark_used.ensures
