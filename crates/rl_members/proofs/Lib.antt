pub mod Keys
pub mod Laws
pub mod Leaving
pub mod Places
pub mod Calls
pub mod Undoing
