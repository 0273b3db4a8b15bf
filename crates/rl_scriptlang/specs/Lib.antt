pub mod Words
pub mod Faults
pub mod Grammar
pub mod Takes
pub mod Numbers
pub mod Seen
pub mod Reads
