use Rattle.std.proofs.lemmas.Result.{IfOk-at_ok}
use Rattle.node.specs.laws.read.LoadLine.{node_read}
use Rattle.tree.specs.laws.load.Open.{open_long, open_words, open_bytes, open_done}
use borrow.Author.Rules.{rules}
use native.Mathlib.Omega.{arith}
use Rattle.tree.proofs.lookup.open_at.Goals as goal

pub adopt_into-requires-clause-room : goal.adopt_into-requires-clause-room
adopt_into-requires-clause-room c =
    let e = c.load_block.ensures.answer in
    search (rules, arith, open_long, open_words, open_bytes, e, c.root.ensures, node_read _ _ c.in_ok-read.was (λ r. r.node), IfOk-at_ok _ c.in_ok-read.was c.load_block.ensures.block)

pub returns-clause-answer : goal.returns-clause-answer
returns-clause-answer c =
    let e = c.load_block.ensures.answer in
    let (h, i) = c.in_ok-info.ensures in
    search (rules, open_done, e, node_read _ _ c.in_ok-read.was (λ r. r.node), IfOk-at_ok _ c.in_ok-read.was c.load_block.ensures.block, h, i)
