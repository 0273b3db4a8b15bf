pub mod Operations
pub mod Sendable
pub mod Sizes
pub mod States
pub mod Values
