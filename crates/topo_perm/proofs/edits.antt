-- The five edits of a slab, and what each does to points, faces and labels.
pub mod Cuts
pub mod EditCounts
pub mod Bypassing
pub mod Connecting
pub mod Slabs
pub mod SlabEdits
pub mod FacesKept
pub mod LabelledFaces
pub mod Allowed
pub mod Possible
