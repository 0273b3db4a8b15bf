pub mod Frames
pub mod Kept
pub mod Readable
pub mod Computed
pub mod Telling
