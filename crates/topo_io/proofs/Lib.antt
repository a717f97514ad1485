pub mod Interface
mod Faults
mod OneList
mod Pricing
mod Telling
mod Validating
mod Written
