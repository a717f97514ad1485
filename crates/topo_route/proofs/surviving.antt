-- Routes that stay the first while their region is kept.
pub mod Surviving
pub mod Searched
pub mod Staying
pub mod KeptRegions
pub mod SeenRegions
pub mod Marking
pub mod Sparing
