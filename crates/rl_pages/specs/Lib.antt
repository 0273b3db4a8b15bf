pub mod Examples
pub mod Frames
pub mod History
pub mod Pages
pub mod Sending
pub mod State
