pub mod Losing
pub mod Places
pub mod Steps
pub mod Tables
