-- What a search knows where its two ends have met, and the route down the heights.
pub mod Descending
pub mod Known
pub mod Meeting
pub mod Turned
pub mod Ending
pub mod Uncrossed
pub mod Levels
pub mod BothEnds
pub mod Bounds
pub mod Guided
