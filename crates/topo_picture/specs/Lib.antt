pub mod Apart
pub mod Ends
pub mod Faces
pub mod Totals
pub mod Laws
pub mod Undoing
