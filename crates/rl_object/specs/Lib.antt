pub mod Back
pub mod Parts
pub mod Ids
pub mod Unnumbered
