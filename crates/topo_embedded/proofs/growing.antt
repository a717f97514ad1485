-- The embedding after a growth.
pub mod Grown
