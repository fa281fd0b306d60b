-- Laws of `node` about slots, words and parts that the crates above cite, under this crate's name.
pub use Rattle.node.specs.laws.base.Seal.{length_splice, part_back, part_whole}
pub use Rattle.node.specs.laws.slot.Slot.{at_start, at_lies, at_next}
pub use Rattle.node.specs.laws.slot.Records.{entries_head, records_least, length_entries}
pub use Rattle.node.specs.laws.slot.Head.{head_same, head_other}
