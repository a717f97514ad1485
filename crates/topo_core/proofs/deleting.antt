-- A picture without an edge, and one whose edge is opened.
pub mod GonePaths
pub mod OpenedDarts
pub mod Openings
pub mod WithoutForm
pub mod WithoutPlaces
pub mod WithoutRows
pub mod WithoutTurns
