-- Get, floor and range answer as the plain list.
pub mod Get
pub mod Below
pub mod Last
pub mod Floor
pub mod Range
