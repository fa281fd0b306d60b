use Rattle.tree.specs.laws.load.MapAddress.{address_ksize, address_vsize}
use Rattle.tree.proofs.mapped.Blocks.map_address.Goals as goal

pub invariant_of-map_lookup : goal.invariant_of-map_lookup
invariant_of-map_lookup c =
    let e = c.load_block.ensures.answer in
    let (h, i) = c.in_ok-info.ensures in
    let q = c.args.self.most in
    record {
      ksize = address_ksize _ _ _ _ _ c.root.ensures e _ c.in_ok-read.was q _ i c.in_ok-check.ensures;
      vsize = address_vsize _ _ _ _ _ c.root.ensures e _ c.in_ok-read.was q _ i c.in_ok-check-2.ensures;
    }
