-- Nodes read from the disk as it was opened, walks over it, and other images that agree on the old blocks.
pub mod Walk
pub mod Read
pub mod Seen
pub mod ReadBounds
pub mod WalkSound
pub mod MapSame
pub mod Agree
