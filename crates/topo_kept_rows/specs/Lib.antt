pub mod Deleting
pub mod Inserting
pub mod Cuts
pub mod Keeping
