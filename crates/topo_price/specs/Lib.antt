pub mod FaultTexts
pub mod Prices
