-- A node in a slot: its words, its records, a key found, a record changed.
pub mod Head
pub mod Records
pub mod Slot
pub mod Find
pub mod SameHead
pub mod Id
pub mod Passed
pub mod PassByLead
pub mod Relink
pub mod Stored
pub mod Put
pub mod Walk
