pub mod Bytes
pub mod Lexed
pub mod Lanes
pub mod Reading
pub mod Begins
pub mod Nested
pub mod Units
