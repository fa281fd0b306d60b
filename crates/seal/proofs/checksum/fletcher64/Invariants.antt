use Rattle.std.proofs.Common.{◌<◌, ◌≡◌, ◌%◌}
use Rattle.std.specs.Slice.Iter.{chunks_rest, chunks_size}
use Rattle.seal.specs.Checksum.{M, words, s1, s2}
use Rattle.seal.proofs.checksum.fletcher64.Given as goal

abbrev pub invariant-loop-chunk : goal.invariant-loop-chunk
invariant-loop-chunk l = record {
  size : chunks_size l.chunk-iterator ≡ 4096;
  low1 : l.sums.sum1 < M;
  low2 : l.sums.sum2 < M;
  first : s1 l.sums.sum1 (words (chunks_rest l.chunk-iterator)) % M ≡ s1 0 (words l.body) % M;
  second : s2 l.sums.sum1 l.sums.sum2 (words (chunks_rest l.chunk-iterator)) % M ≡ s2 0 0 (words l.body) % M;
}
