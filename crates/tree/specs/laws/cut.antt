-- Index keys and cuts on a way, as the code makes them.
pub mod IndexKey
pub mod Pairs
pub mod IndexKeys
pub mod Part
pub mod LinkChild
pub mod Asked
pub mod NewRoot
pub mod AddRoot
pub mod GrowRoot
pub mod CutAt
pub mod CutNode
pub mod Cuts
