-- Remove, and the object map's drop and put, keep the invariant.
pub mod WhatIsLeft
pub mod DeadSums
pub mod DropOne
pub mod DropAll
pub mod Numbers
pub mod Regrow
pub mod Accounts
pub mod DropAccounts
pub mod CutsBelow
pub mod CutsAtRoot
pub mod BeforeCuts
pub mod AfterCuts
pub mod HandDownOnce
pub mod HandDown
pub mod Remove
pub mod Omap
pub mod Edits
