-- What is claimed over the crates below: the plain list, the walk, calls, the statement, the cases.
pub mod Plain
pub mod Walk
pub mod Cases
pub mod WrongAnswers
pub mod Calls
pub mod Passes
pub mod Statement
pub mod Code
-- Laws: checked by the machine, nothing to believe.
pub mod laws
