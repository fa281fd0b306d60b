use Rattle.std.proofs.Common.{rules, ℕ, leb, ◌+◌, ◌*◌, ◌&&◌, ◌∙◌}
use Rattle.std.proofs.lemmas.Iterator.{YieldsList-from_slice}
use Rattle.std.proofs.lemmas.Iterator.Consumers.{YieldsList-at, YieldsList-from_enumerate}
use Rattle.std.proofs.lemmas.Iterator.Search.{all_from_yields_List}
use Rattle.flush.specs.Space.{chunk_blocks}
use Rattle.flush.specs.laws.SpaceSteps.{chunks_all}
use Rattle.flush.proofs.space.chunks_hold.Goals as goal

pub returns : goal.returns
returns c =
    let a = c.args in
    all_from_yields_List (λ (p : ℕ × ℕ). leb p.1 (chunk_blocks a.size) && leb (p.0 * chunk_blocks a.size + p.1) a.blocks) _ _ _ c.all.ensures.ran
    (YieldsList-from_enumerate (YieldsList-at c.enumerate.ensures.source (YieldsList-from_slice a.counts.now c.iter.ensures.rest)) c.enumerate.ensures.count)
    (λ x b q k. search rules)
    ∙ chunks_all a.size a.blocks 0 a.counts.now
