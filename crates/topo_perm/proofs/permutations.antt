-- Cycles, classes and walks of a map on the numbers below n.
pub mod Classes
pub mod Exchange
pub mod Lists
pub mod Points
pub mod Labels
pub mod Walks
pub mod Live
pub mod Search
pub mod Counting
pub mod Faces
pub mod Splitting
pub mod Unmet
