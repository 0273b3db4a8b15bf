pub mod Steps
pub mod Named
pub mod Fits
pub mod Flatness
pub mod Again
pub mod Written
