-- The embedding after an insertion.
pub mod Pieces
pub mod PutPaths
pub mod Inserted
pub mod InsertedShows
pub mod InsertedNames
pub mod InsertionLaw
pub mod InsertedLabels
pub mod Pads
pub mod Splits
pub mod AddedChords
pub mod Routed
