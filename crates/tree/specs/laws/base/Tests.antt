-- Tests that the code negates. Assumes nothing.
use borrow.Author.Tests.{not-true, not-false}

pub ruleset negated = (not-true, not-false)
