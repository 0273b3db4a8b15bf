pub mod Backward
pub mod Mapped
