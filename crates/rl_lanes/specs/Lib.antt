pub mod Lanes
pub mod Moves
pub mod Sound
pub mod Follows
pub mod Frames
pub mod Examples
