pub mod Pools
pub mod Live
pub mod Changes
pub mod Journal
pub mod Admitting
pub mod Checks
