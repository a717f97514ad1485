pub mod Runs
pub mod Working
