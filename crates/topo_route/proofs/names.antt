-- Darts by names and by numbers, and their prices.
pub mod Numbers
pub mod Rounds
pub mod Prices
pub mod Walking
pub mod Segments
pub mod Asking
pub mod Names
pub mod Canonical
pub mod Ranges
