-- Remove as the code does it, and the short way for one that changes its leaf alone.
pub mod Ways
pub mod Words
pub mod Reads
pub mod Drops
pub mod Shrink
pub mod HandDown
pub mod Links
pub mod Room
pub mod Cuts
pub mod Chain
pub mod Steps
pub mod Call
pub mod LeafAlone
pub mod LeafAloneSteps
