-- Runs of edits: subdivision vertices, chords, insertion paths, deletion steps, smoothings.
pub mod Chords
pub mod Subdivisions
pub mod InsertionPaths
pub mod Passing
pub mod DeletionSteps
pub mod Smoothings
pub mod Midpoints
