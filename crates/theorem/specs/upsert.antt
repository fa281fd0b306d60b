-- Upsert keeps the invariant, with the plain list's upsert.
pub mod Puts
pub mod Leaf
pub mod State
pub mod Cuts
pub mod Upsert
pub mod Call
