pub mod Interface
mod numbering
mod systems
mod growing
mod inserting
mod deleting
mod routing
mod stepping
