use Rattle.std.proofs.Common.{◌≡◌, ◌++◌, ◌-◌, ◌∙◌, ap, ℕ, List, min, length, take, drop}
use Rattle.script.specs.Words.{pairs, decoded}
use Rattle.script.specs.laws.ByteLaws.{decoded_length, decoded_behind}
use Rattle.script.proofs.words.decode.Goals as goal

pub returns : goal.returns
returns c =
    let w = c.args.w.now in
    let n = c.decode.result in
    let e : pairs (take (length w - c.min.result) (drop c.min.result w)) ≡ decoded w = decoded_behind w c.min.result c.min.ensures in (
      c.decode.ensures.count ∙ ap (λ (k : ℕ). min k (length c.args.out.now)) (ap length e ∙ decoded_length w),
      c.decode.ensures.bytes ∙ ap (λ (l : List ℕ). take n l ++ drop n c.args.out.now) e,
    )
