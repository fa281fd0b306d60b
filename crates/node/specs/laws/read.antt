-- A block read: the load line, what an accepted node keeps, its entries copied into a slot, a key searched in a block.
pub mod Read
pub mod LoadLine
pub mod Loaded
pub mod Bounds
pub mod Keys
pub mod Accepted
pub mod Adopt
pub mod Search
-- Read and not used: in which order the load line refuses, and what it loads.
pub use Rattle.node.specs.laws.read.LoadLine.{load_3, load_4, load_5, load_6, load_7, load_8, load_9_rise, load_9, loaded}
