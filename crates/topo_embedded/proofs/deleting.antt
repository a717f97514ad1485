-- The embedding after a deletion.
pub mod Uncrossed
pub mod Without
pub mod Aheads
pub mod OpenedPath
pub mod SmoothedPath
