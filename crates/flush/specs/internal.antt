-- Definitions that only internal contracts cite.
pub mod Lists
pub mod Walk
pub mod Counts
pub mod Calls
