pub mod Turned
pub mod Back
pub mod Slots
pub mod Changes
