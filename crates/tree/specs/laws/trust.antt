-- What a trusted call trusts, and that every call keeps it: how often slots are named, slots that stand together, step by step and call by call.
pub mod Named
pub mod Stands
pub mod OneStep
pub mod Granted
pub mod Open
pub mod LoadOne
pub mod Loads
pub mod Edit
pub mod Cut
pub mod CutRoot
pub mod Upsert
pub mod DropEmptied
pub mod HandDown
pub mod Remove
pub mod Omap
