use Rattle.std.proofs.Common.{arith}
use Rattle.seal.specs.laws.ChecksumLaws.{none_left, one_left}
use Rattle.seal.proofs.checksum.add_chunk.Goals as goal

pub returns-then-rest-lt4 : goal.returns-then-rest-lt4
returns-then-rest-lt4 c =
    let i = c.loop-pair.invariant in
    let e = c.as_chunks.ensures in
    none_left _ _ _ _ _ _ _ _ e.front c.loop-pair-test.false e.back c.if-rest-lt4.true i.first i.second

pub returns : goal.returns
returns c =
    let i = c.loop-pair.invariant in
    let e = c.as_chunks.ensures in
    one_left _ _ _ _ _ _ _ _ _ e.front c.loop-pair-test.false e.back c.if-rest-lt4.false (omega arith) c.field_at.ensures.value i.first i.second
