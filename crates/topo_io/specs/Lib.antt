pub mod Limiting
pub mod Reading
pub mod Settings
pub mod Statuses
pub mod Writing
