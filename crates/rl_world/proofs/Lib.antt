pub mod Added
pub mod Fed
pub mod Places
pub mod Shown
pub mod Worlds
pub mod Small
pub mod Follows
pub mod Carried
