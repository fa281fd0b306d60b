-- How many bytes the records of a slot take: between calls two blocks' worth at most, within a call four.
pub mod Weight
pub mod Room
pub mod Edit
pub mod Each
pub mod TooLarge
pub mod SlotsOnlyGrow
pub mod Calls
pub mod Way
