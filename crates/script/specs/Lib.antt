-- The greatest number and products below it, the words of a line, the answers' bytes, a line's bounds: what the contracts of `script` cite.
pub mod Number
pub mod Words
pub mod Out
pub mod Input
-- What only internal contracts and proofs cite.
pub mod internal
-- Laws: checked by the machine, nothing to believe.
pub mod laws
