-- A tree just opened meets the invariant.
pub mod BlocksOnce
pub mod OneSlot
pub mod Start
