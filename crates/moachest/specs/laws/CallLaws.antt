-- Laws of the calls on words, by what they answer: what the clauses of a call follow from. Assumes nothing.
use Rattle.std.specs.Prelude.{◌≡◌, refl, List, ℕ, Err}
use Rattle.node.specs.Result.{refused}
use Rattle.node.specs.Refusals.{number_of}
use Rattle.node.specs.declared.refusal.Refusal.{Refusal}
use Rattle.tree.specs.Answers.{opened_of, got_means, got_output, floor_means, floored_output, range_means, ranged_output, edited_of, removed_of}
use Rattle.tree.specs.declared.editor.Tree.{Tree}
use Rattle.flush.specs.Space.{Space}
use Rattle.flush.specs.Answers.{flushed_means}
use Rattle.moachest.specs.laws.WordLaws.{scratch_length, on_tree_lem, on_few, on_words_lem, on_few_words}
use Rattle.moachest.specs.laws.AnswerLaws.{opened_refused, opened_done, got_refused, got_done, floored_refused, floored_done, ranged_refused, ranged_done, edited_refused, edited_done, removed_refused, removed_done, flushed_refused, flushed_done}

-- ---- what a refusal means, and the output of a refused call

pub open_means : (size : ℕ) (heads bytes : List ℕ) (x : Refusal) → opened_of size heads bytes (Err x) ≡ refused (number_of x)
unfolding opened_of
open_means size heads bytes x = refl

pub get_means : (size : ℕ) (heads bytes out : List ℕ) (x : Refusal) → got_means size heads bytes out (Err x) ≡ refused (number_of x)
unfolding got_means
get_means size heads bytes out x = refl

pub get_output : (out : List ℕ) (n : ℕ) → got_output out (refused n) ≡ out
unfolding got_output
get_output out n = refl

pub floor_refusal : (size : ℕ) (heads bytes out : List ℕ) (x : Refusal) → floor_means size heads bytes out (Err x) ≡ refused (number_of x)
unfolding floor_means
floor_refusal size heads bytes out x = refl

pub floor_output : (out : List ℕ) (n : ℕ) → floored_output out (refused n) ≡ out
unfolding floored_output
floor_output out n = refl

pub range_refusal : (size : ℕ) (heads bytes out : List ℕ) (x : Refusal) → range_means size heads bytes out (Err x) ≡ refused (number_of x)
unfolding range_means
range_refusal size heads bytes out x = refl

pub range_output : (out : List ℕ) (n : ℕ) → ranged_output out (refused n) ≡ out
unfolding ranged_output
range_output out n = refl

pub edit_means : (size : ℕ) (heads bytes : List ℕ) (x : Refusal) → edited_of size heads bytes (Err x) ≡ refused (number_of x)
unfolding edited_of
edit_means size heads bytes x = refl

pub remove_means : (size : ℕ) (heads bytes : List ℕ) (x : Refusal) → removed_of size heads bytes (Err x) ≡ refused (number_of x)
unfolding removed_of
remove_means size heads bytes x = refl

pub flush_means : (size : ℕ) (t : Tree) (image : List ℕ) (p : Space) (heads bytes freed removed ids places : List ℕ) (x : Refusal)
    → flushed_means size t image p heads bytes freed removed ids places (Err x) ≡ refused (number_of x)
unfolding flushed_means
flush_means size t image p heads bytes freed removed ids places x = refl

-- ---- by what is answered

pub ruleset opened = (opened_refused, opened_done, open_means, on_tree_lem, on_few)

pub ruleset got = (got_refused, got_done, get_means, get_output, on_words_lem, on_few_words)

pub ruleset floored = (floored_refused, floored_done, floor_refusal, floor_output, on_words_lem, on_few_words)

pub ruleset ranged = (ranged_refused, ranged_done, range_refusal, range_output, on_words_lem, on_few_words)

pub ruleset edited = (edited_refused, edited_done, edit_means, on_tree_lem, on_few, scratch_length)

pub ruleset removed = (removed_refused, removed_done, remove_means, on_words_lem, on_few_words)

pub ruleset flushed = (flushed_refused, flushed_done, flush_means, on_words_lem, on_few_words)
