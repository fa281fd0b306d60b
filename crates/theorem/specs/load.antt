-- A child loaded keeps the invariant.
pub mod Loads
pub mod Fetched
pub mod Clean
pub mod Good
pub mod Way
