-- What a change does to the rows, list by list.
pub mod Leaving
pub mod Deleting
pub mod Rotating
pub mod Copying
pub mod CrossedPaths
pub mod CrossedRows
pub mod Keeping
pub mod KeepingEdges
pub mod Inserting
pub mod Totals
pub mod WithoutCounts
