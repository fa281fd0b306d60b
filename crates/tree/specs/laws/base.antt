-- Laws of the crate below, under this crate's name, and of tests and sums that every subject uses.
pub mod Node
pub mod NodeSlots
pub mod Refused
pub mod Tests
