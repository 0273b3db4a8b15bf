pub mod Refusals
pub mod Stepped
pub mod Hears
pub mod Pushes
pub mod Marks
