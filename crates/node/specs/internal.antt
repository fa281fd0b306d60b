-- Definitions that only internal contracts cite, or that a theorem assumes.
pub mod SlotSteps
pub mod Storable
pub mod Lead
pub mod CutSteps
pub mod ReadSteps
pub mod PackSteps
pub mod Packable
pub mod Sought
pub mod Walk
pub mod Children
