pub mod Views
pub mod Runs
pub mod Joins
pub mod Reads
