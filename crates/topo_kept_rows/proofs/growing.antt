-- How the darts turn after a growth.
pub mod Corners
pub mod GrownCorner
pub mod GrownSlab
pub mod AlonePoints
