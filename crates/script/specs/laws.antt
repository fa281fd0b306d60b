-- Laws of words, numbers, answers and lines, and examples.
pub mod NumberLaws
pub mod ByteLaws
pub mod OutLaws
pub mod LineLaws
pub mod ReadLaws
pub mod Examples
-- Read and not used: a byte has two hexadecimal digits; a number that is one, and what two numbers are written as.
pub use Rattle.script.specs.laws.OutLaws.{two_digits}
pub use Rattle.script.specs.laws.Examples.{number_is, text_1203, text_zero}
