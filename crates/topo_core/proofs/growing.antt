-- A growth keeps a picture lawful.
pub mod Growing
pub mod GrownFaces
