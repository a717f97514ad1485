pub mod Parts
pub mod Planarizations
