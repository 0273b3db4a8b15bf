pub mod Ids
pub mod Places
pub mod Calls
pub mod Lists
pub mod Limits
