-- The object map's drop and put.
pub mod Keys
pub mod Listed
pub mod Drop
pub mod RemoveAll
pub mod Calls
pub mod Put
-- Read and not used: what a drop lists in the scratch has keys of 16 bytes.
pub use Rattle.tree.specs.laws.omap.Drop.{ranged_listed}
