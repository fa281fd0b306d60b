-- Get, floor and range: the code's steps, then each as a call.
pub mod GetLeaf
pub mod GetCall
pub mod FloorLoads
pub mod FloorLeaf
pub mod FloorDown
pub mod FloorCall
pub mod LoadedCalls
pub mod Between
pub mod RangeAgain
pub mod NamedSums
pub mod RangeSums
pub mod RangeCount
pub mod RangeCountCode
pub mod RangeOut
pub mod RangeFirstChild
pub mod RangeHeld
pub mod RangeCall
pub mod RangeLeaves
-- Read and not used: the first child that range enters of a slot, by its words and bytes.
pub use Rattle.tree.specs.laws.lookup.RangeFirstChild.{next_some}
