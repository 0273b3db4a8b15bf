pub mod Sums
pub mod Named
pub mod Away
pub mod Begun
pub mod Turned
pub mod Turning
pub mod Leaving
