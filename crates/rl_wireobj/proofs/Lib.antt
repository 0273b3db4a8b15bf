pub mod Again
pub mod Fits
pub mod Flatness
pub mod Ids
pub mod Lengths
pub mod Named
pub mod Plains
