pub mod Lines
pub mod Sessions
pub mod Taking
pub mod Turns
