use Rattle.std.proofs.Common.{◌∙◌}
use Rattle.tree.specs.laws.omap.RemoveAll.{removing_next}
use Rattle.tree.proofs.editor.Tree.remove_all.Goals as goal

pub loop-r-preserved : goal.loop-r-preserved
loop-r-preserved c =
    let v = c.loop-r.invariant in
    let s = c.in-Some.ensures.steps in
    let h = rw v.same at s.within in
    let p = s.start ∙ rw v.same at c.loop-r.r-iterator.start in
    let k = rw v.same at s.slot in
    let ek = rw k at c.key.ensures in
    let r = c.removed in
    record {
      same = s.records ∙ v.same;
      wide = r.auto.scratch ∙ v.wide;
      at = rw s.next (removing_next _ _ _ _ _ _ _ _ _ _ _ v.at h _ p _ ek _ _ _ r.ensures.answer r.auto.heads r.auto.bytes r.ensures.follows r.ensures.ready _ _ c.in_ok-u.was);
    }
