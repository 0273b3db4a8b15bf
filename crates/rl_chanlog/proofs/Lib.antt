pub mod Ends
pub mod Kept
pub mod Places
pub mod Windows
