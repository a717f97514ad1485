pub mod Answers
pub mod Planarizing
pub mod Ways
