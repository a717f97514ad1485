-- Rotation systems: their turn, their points, and what is joined.
pub mod BarePoints
pub mod Bypassing
pub mod Connection
pub mod Lengthening
pub mod NewDarts
pub mod Orbits
pub mod Points
pub mod RoundPoints
pub mod SystemDarts
pub mod Turning
