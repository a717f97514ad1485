pub mod Listing
pub mod Names
pub mod Versions
