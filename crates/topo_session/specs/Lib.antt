pub mod Answers
pub mod Questions
pub mod Standings
pub mod Texts
