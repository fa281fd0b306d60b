use Rattle.std.proofs.Common.{◌+◌, ◌-◌, ◌*◌, ◌≤◌, ◌≡◌, drop}
use Rattle.seal.specs.Checksum.{s1, s2}
use Rattle.seal.specs.laws.ChecksumLaws.{pair_words}
use Rattle.seal.proofs.checksum.add_chunk.Given as goal

abbrev pub invariant-loop-pair : goal.invariant-loop-pair
invariant-loop-pair l = record {
  even : l.even ≤ 4294967296 * (1 + l.pair-index);
  odd : l.odd ≤ 4294967296 * l.pair-index;
  evens : l.evens ≤ 4294967296 * (513 * l.pair-index);
  odds : l.odds ≤ 4294967296 * (513 * l.pair-index);
  within : l.odd ≤ l.odds;
  first : s1 (l.even + l.odd) (pair_words (drop l.pair-index l.pairs)) ≡ s1 l.sums.sum1 (pair_words l.pairs);
  second : s2 (l.even + l.odd) (l.sums.sum2 + 2 * (l.evens + l.odds) - l.odd) (pair_words (drop l.pair-index l.pairs)) ≡ s2 l.sums.sum1 l.sums.sum2 (pair_words l.pairs);
}
