-- Orders of keys, and entries whose keys rise.
pub mod Order
pub mod OrderSteps
pub mod Compared
pub mod Leading
pub mod Rising
pub mod Found
