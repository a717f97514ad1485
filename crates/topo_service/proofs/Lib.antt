pub mod Interface
mod Answering
mod FoundRoutes
mod Matching
mod Missed
mod Numbers
mod Refusals
mod Versions
mod Wholeness
mod Working
