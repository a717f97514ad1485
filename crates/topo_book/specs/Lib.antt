pub mod Books
pub mod FaultTexts
pub mod Faults
pub mod Fullness
pub mod RefusedCalls
pub mod Replicas
pub mod RouteSources
pub mod Sparing
