pub mod Interface
mod rows
mod growing
mod inserting
mod deleting
