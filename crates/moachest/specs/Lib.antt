-- What the contracts of the library cite.
pub mod Words
pub mod Answers
pub mod Sizes
pub mod WrongExports
-- Laws: checked by the machine, nothing to believe.
pub mod laws
