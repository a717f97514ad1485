pub mod Halves
pub mod Rotation
pub mod Segments
pub mod Labels
pub mod Building
