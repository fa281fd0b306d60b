use Rattle.std.proofs.Common.{length, arith, refl}
use Rattle.moachest.specs.Answers.{got_tree, got_answer}
use Rattle.moachest.specs.laws.AnswerLaws.{got_done}
use Rattle.moachest.specs.laws.CallLaws.{got}
use Rattle.moachest.specs.laws.QuickLaws.{trusts_loaded, words_kept, quick_is, quick_left}
use Rattle.moachest.proofs.lookups.get_trusted.Goals as goal

pub returns-then-as_stored : goal.returns-then-as_stored
unfolding got_tree got_answer
returns-then-as_stored c =
    let p = trusts_loaded _ _ _ _ _ _ _ refl c.in_ok-t.ensures.2 c.requires.trusts in
    let same = quick_is c.args.image.now _ _ c.args.key.now c.args.lent _ p _ c.leaf_of.ensures _ c.in-Some.is (length c.args.out.now) in
    let kept = words_kept c.args.tree.now c.in_ok-t.t _ c.in_ok-t.ensures.2 c.in_ok-t.ensures.0 c.as_stored.ensures c.if-as_stored.true in
    let told = got_done _ c.args.answer.now _ _ c.in_ok-t.t c.in_ok-copied.copied kept c.put.ensures in
    record {
      answer = grind (arith, got, same, told);
      output = grind (arith, got, same);
      left = rw told (quick_left c.args.image.now _ _ c.args.key.now c.args.lent _ p _ c.leaf_of.ensures _ c.in-Some.is _ _ _ c.in_ok-copied.ensures.answer c.in_ok-copied.ensures.ready);
      words = rw told (kept, c.put.ensures);
    }
