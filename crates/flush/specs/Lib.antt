-- Blocks and flush: the rules of docs/RULES.md as functions.
pub mod Space
pub mod Flush
pub mod Answers
-- What only internal contracts cite.
pub mod internal
-- Laws: checked by the machine, nothing to believe.
pub mod laws
