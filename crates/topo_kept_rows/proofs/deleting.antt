-- How the darts turn after a deletion, and which segment cuts.
pub mod PointCycles
pub mod DeletedTurns
pub mod DeletedSegments
pub mod DeletedSmoothing
pub mod DeletedOpening
pub mod DeletedCuts
pub mod DeletedLawful
pub mod DeletedSlab
pub mod DeletedMids
pub mod DeletedSteps
pub mod Skipping
pub mod OpenedFaces
