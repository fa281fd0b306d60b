-- Refusal 1: the slots hold together after every call, and nothing after 1 answers 1.
pub mod NamedOnce
pub mod Holds
pub mod Reads
pub mod Ways
pub mod Lookups
pub mod Edits
pub mod Remove
