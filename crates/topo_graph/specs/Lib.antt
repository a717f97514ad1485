pub mod FaultTexts
pub mod Graphs
