-- What the contracts of `speed` cite.
pub mod Any
pub mod OneNode
