pub mod Ids
pub mod Keeps
pub mod Outcomes
pub mod Window
