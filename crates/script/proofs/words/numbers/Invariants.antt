use Rattle.std.proofs.Common.{◌≡◌, ◌+◌, ◌<◌, ℕ, length, Some, slice_index}
use Rattle.script.specs.Words.{number_read, word_of}
use Rattle.script.proofs.words.numbers.Given as goal

abbrev pub invariant-loop-i : goal.invariant-loop-i
invariant-loop-i g l = record {
  room : length l.x-items ≡ g.row.N;
  kept : (k : ℕ) → k < l.i → number_read (word_of l.s (l.from + k)) ≡ Some (slice_index l.x-items k);
}
