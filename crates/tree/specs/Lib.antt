-- The editor on slots: the rules of docs/RULES.md as functions on a list of nodes.
pub mod Format
pub mod Refusals
pub mod Lent
pub mod State
pub mod Workspace
pub mod Hold
pub mod Load
pub mod Lookup
pub mod Edit
pub mod Upsert
pub mod Remove
pub mod Omap
pub mod Trust
pub mod Trusts
pub mod Answers
-- What only internal contracts cite, or a theorem assumes.
pub mod internal
-- Laws: checked by the machine, nothing to believe.
pub mod laws
