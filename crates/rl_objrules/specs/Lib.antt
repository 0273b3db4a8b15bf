pub mod Ids
pub mod Loads
pub mod Rules
