-- One node: answers, orders, entries, records in a slot, fitting, cutting, reading, packing.
pub mod Bytes
pub mod Obj
pub mod Result
pub mod Refusals
pub mod Order
pub mod Entry
pub mod Records
pub mod Fit
pub mod Place
pub mod Cut
pub mod Read
pub mod Slot
pub mod Find
pub mod Pack
-- What only internal contracts cite, or a theorem assumes.
pub mod internal
-- Laws: checked by the machine, nothing to believe.
pub mod laws
