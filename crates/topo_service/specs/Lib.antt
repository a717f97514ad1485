pub mod Answers
pub mod Commands
pub mod FaultTexts
pub mod Faults
pub mod Found
pub mod Passes
pub mod Receipts
