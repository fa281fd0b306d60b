-- Laws of the editor's definitions and of the slots that its code works on.
-- Laws of the crate below, under this crate's name, and of tests and sums that every subject uses.
pub mod base
-- An open tree as a value: one slot replaced, one more, entries put and taken out, a leaf's edit, a cut, the root's place.
pub mod state
-- What a trusted call trusts, and that every call keeps it: how often slots are named, slots that stand together, step by step and call by call.
pub mod trust
-- How many bytes the records of a slot take: between calls two blocks' worth at most, within a call four.
pub mod room
-- Words and bytes: a slot read, written, copied, saved and brought back; the tree that the slots are.
pub mod slots
-- Refusal 1 as the code answers it: sizes, numbers, one pass over the slots; and what it grants once it is passed.
pub mod refusal1
-- A child brought, through the object map or not; open; the way to a key.
pub mod load
-- Get, floor and range: the code's steps, then each as a call.
pub mod lookup
-- Index keys and cuts on a way, as the code makes them.
pub mod cut
-- Upsert as the code does it.
pub mod upsert
-- Remove as the code does it, and the short way for one that changes its leaf alone.
pub mod remove
-- The object map's drop and put.
pub mod omap
