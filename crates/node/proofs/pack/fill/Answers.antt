use borrow.Author.Rules.{rules}
use Rattle.node.specs.laws.pack.Block.{rooms, fill_inner, fill_root}
use Rattle.node.proofs.pack.fill.Goals as goal

pub put_entries-s-requires : goal.put_entries-s-requires
put_entries-s-requires c = rooms _ _ _ _ c.requires _ _ _ (search rules) c.toc_length-toc.ensures.0 c.data_space-space.ensures.0

pub returns-then-b : goal.returns-then-b
returns-then-b c =
    fill_root _ _ _ _ c.requires _ _ _ _ _ _ _ _ _ c.toc_length-toc.ensures.0 c.data_space-space.ensures.0 c.clear.ensures c.put_entries-s.ensures.0 c.put_entries-s.ensures.1 c.put_entries-s.ensures.2 c.put_head.ensures _ c.if-b.true c.put_info.ensures

pub returns-else-b : goal.returns-else-b
returns-else-b c =
    fill_inner _ _ _ _ c.requires _ _ _ _ _ _ _ _ _ c.toc_length-toc.ensures.0 c.data_space-space.ensures.0 c.clear.ensures c.put_entries-s.ensures.0 c.put_entries-s.ensures.1 c.put_entries-s.ensures.2 c.put_head.ensures c.if-b.false
