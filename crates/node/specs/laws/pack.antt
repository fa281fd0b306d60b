-- A node packed into its block, and that it loads to itself.
pub mod Numbered
pub mod Parts
pub mod Layout
pub mod Entries
pub mod Steps
pub mod Block
pub mod Bytes
pub mod HeaderBack
pub mod EntriesBack
pub mod LoadsBack
