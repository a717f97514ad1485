-- How the darts turn after an insertion.
pub mod InsertedNumbers
pub mod InsertedPath
pub mod InsertedLawful
pub mod InsertedSlab
