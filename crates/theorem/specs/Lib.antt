-- The proof of demand 3. Nothing here has to be believed.
-- The tree that slots and the disk stand for, by recursion on the level; keys within bounds; sums over it; the invariant `Good`.
pub mod model
-- What one step of an edit leaves of the tree: a leaf's entry, index keys, marks, a node cut in two, a new root.
pub mod steps
-- Nodes read from the disk as it was opened, walks over it, and other images that agree on the old blocks.
pub mod disk
-- A tree just opened meets the invariant.
pub mod start
-- A child loaded keeps the invariant.
pub mod load
-- Get, floor and range answer as the plain list.
pub mod lookup
-- Upsert keeps the invariant, with the plain list's upsert.
pub mod upsert
-- Remove, and the object map's drop and put, keep the invariant.
pub mod remove
-- Flush: the accounts of blocks and ids write by write, the disk that it leaves, the walk from the new root.
pub mod flush
-- Refusal 1: the slots hold together after every call, and nothing after 1 answers 1.
pub mod one
pub mod Histories
pub mod Demand
pub mod Whole
pub mod Joined
pub mod RefusalOne
pub mod Quotes
pub mod Quoted
