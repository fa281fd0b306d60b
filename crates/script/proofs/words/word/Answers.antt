use Rattle.std.proofs.Common.{rules, tests, ◌≡◌, List, ℕ, Option, None, Some, ◌∙◌, ap, eqb, refl, []}
use Rattle.std.specs.Option.{unwrap_or, option_map}
use Rattle.std.specs.Borrow.{Bor}
use Rattle.std.proofs.lemmas.Iterator.Consumers.{nth_from_yields_List}
use Rattle.std.proofs.lemmas.Iterator.Splits.{YieldsList-from_slice_split}
use Rattle.script.specs.Words.{words_of, word_of}
use Rattle.script.proofs.words.word.Goals as goal

-- what the reference points to, or that of the other one
now_or : (r : Option (Bor (List ℕ))) (d : Bor (List ℕ)) → (unwrap_or r d).now ≡ unwrap_or (option_map (λ x. x.now) r) d.now
now_or None d = refl
now_or (Some x) d = refl

pub returns : goal.returns
unfolding words_of word_of
returns c =
    ap (λ (x : Bor (List ℕ)). x.now) c.unwrap_or.ensures ∙ now_or c.nth.result _
    ∙ ap (λ (o : Option (List ℕ)). unwrap_or o [])
    (nth_from_yields_List _ _ _ c.nth.ensures.ran
    (YieldsList-from_slice_split _ (λ b. eqb b 32) c.args.s.now c.split.ensures.rest c.split.ensures.done c.split.ensures.closure (λ x b q k. search (rules, tests))))
