pub mod Frames
pub mod Sendable
pub mod Sizes
pub mod Tables
pub mod Texts
pub mod Tokens
pub mod PutOut
