pub mod Tried
pub mod Syncing
