-- A picture that shows a new edge along a route.
pub mod ShownForm
pub mod ShownPlaces
pub mod ShownPoints
pub mod ShownRows
pub mod ShownTurns
pub mod UndoneInsertions
pub mod Weaving
pub mod WovenPaths
