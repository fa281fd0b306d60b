-- A child brought, through the object map or not; open; the way to a key.
pub mod MapNode
pub mod MapFloor
pub mod MapAddress
pub mod Fetch
pub mod Open
pub mod Way
pub mod LoadedWay
