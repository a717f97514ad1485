-- Steps and replays.
pub mod Determined
pub mod Replaying
