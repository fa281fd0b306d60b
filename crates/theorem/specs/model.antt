-- The tree that slots and the disk stand for, by recursion on the level; keys within bounds; sums over it; the invariant `Good`.
pub mod Bounds
pub mod Sums
pub mod Ranks
pub mod Lazy
pub mod Lift
pub mod Seen
pub mod Good
pub mod Places
pub mod Found
