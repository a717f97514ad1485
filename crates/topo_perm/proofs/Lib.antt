pub mod Interface
mod permutations
mod edits
mod runs
mod renumbering
