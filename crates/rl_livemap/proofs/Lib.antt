pub mod Stamped
pub mod Written
pub mod Dropped
pub mod Merged
pub mod Unnumbered
pub mod Weighed
pub mod Back
