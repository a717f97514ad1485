-- Edits and runs under other numbers.
pub mod Renumbered
pub mod EditNumbers
pub mod SplitNumbers
pub mod Composing
pub mod RunNumbers
pub mod InsertionPathNumbers
pub mod DeletionNumbers
pub mod GrowthNumbers
