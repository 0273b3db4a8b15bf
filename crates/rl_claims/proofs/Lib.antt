pub mod Once
pub mod Opened
pub mod Runs
pub mod Sound
