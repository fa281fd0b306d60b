-- An open tree as a value: one slot replaced, one more, entries put and taken out, a leaf's edit, a cut, the root's place.
pub mod State
pub mod Entries
pub mod Edit
pub mod Hold
pub mod Load
pub mod Linked
pub mod OneLeaf
pub mod NewRootFits
