-- What one step of an edit leaves of the tree: a leaf's entry, index keys, marks, a node cut in two, a new root.
pub mod LeafAndKeys
pub mod Grow
pub mod Marks
pub mod EachSlot
pub mod Parents
pub mod Way
pub mod CutNode
pub mod Cuts
pub mod CutRoot
pub mod EachSlotCuts
pub mod EachSlotRoot
pub mod EachSlotAfter
pub mod Fit
pub mod Sums
pub mod HasKey
