-- Heights while a search spreads them.
pub mod Blank
pub mod FaceHeights
pub mod Listed
pub mod Settled
pub mod Fits
pub mod Sums
pub mod Relaxing
pub mod Buckets
pub mod Reaching
pub mod Crossings
pub mod Unreached
pub mod FaceWalks
pub mod Pending
pub mod Shown
