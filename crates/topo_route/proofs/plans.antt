-- The tests of a plan.
pub mod Tests
pub mod Verdicts
