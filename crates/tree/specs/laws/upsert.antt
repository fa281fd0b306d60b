-- Upsert as the code does it.
pub mod WayKept
pub mod PutInLeaf
pub mod Parts
pub mod Room
pub mod Fit
pub mod Steps
pub mod Call
-- Read and not used: room in the key count for a key that is there, and the refusal of a leaf with no entry, and with more than one.
pub use Rattle.tree.specs.laws.upsert.PutInLeaf.{count_found, refusal_first, refusal_others}
