-- The halves of darts, where they lie, and the faces beside them.
pub mod Blocks
pub mod Listing
pub mod KeptPaths
pub mod Numbers
pub mod Made
pub mod Apart
pub mod Reading
pub mod LeftHalves
pub mod FaceWalks
pub mod OnSegments
pub mod OnPaths
pub mod SameFaces
pub mod InOrder
pub mod FoundHalves
pub mod LabelledFaces
