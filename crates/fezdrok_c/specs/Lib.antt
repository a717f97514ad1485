pub mod Blocks
pub mod Given
pub mod Handing
pub mod Searches
pub mod Sessions
pub mod Typed
