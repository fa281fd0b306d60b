-- Laws of one node.
-- Tests, results, lists of bytes, windows replaced; laws of `seal` under this crate's name.
pub mod base
-- Orders of keys, and entries whose keys rise.
pub mod order
-- A node in a slot: its words, its records, a key found, a record changed.
pub mod slot
-- Fitting, cutting, and the one pass over a slot that refusal 1 makes.
pub mod fit
-- A block read: the load line, what an accepted node keeps, its entries copied into a slot, a key searched in a block.
pub mod read
-- A node packed into its block, and that it loads to itself.
pub mod pack
