pub mod Faults
pub mod Answers
pub mod Reads
pub mod Turns
pub mod Keys
pub mod Words
