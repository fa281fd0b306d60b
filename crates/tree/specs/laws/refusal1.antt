-- Refusal 1 as the code answers it: sizes, numbers, one pass over the slots; and what it grants once it is passed.
pub mod Sizes
pub mod Lent
pub mod Links
pub mod Marks
pub mod HoldTogether
pub mod Pass
pub mod Ready
pub mod Roomy
pub mod Calls
pub mod EditCalls
