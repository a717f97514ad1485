-- Darts, their canonical order and their numbers.
pub mod Counting
pub mod DartLaws
pub mod DartOrder
pub mod Members
pub mod NumberOrder
pub mod Numbering
pub mod Renumbering
pub mod Standing
