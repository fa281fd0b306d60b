-- Fitting, cutting, and the one pass over a slot that refusal 1 makes.
pub mod Fit
pub mod Pass
pub mod Cut
pub mod Weight
