pub mod Again
pub mod Fits
pub mod Plainly
pub mod Tried
