pub mod Interface
mod names
mod spreading
mod meeting
mod surviving
mod plans
