-- What contracts between the functions of `input` and their invariants say.
pub mod Written
pub mod Coming
