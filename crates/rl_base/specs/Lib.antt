pub mod Digits
pub mod Lends
pub mod Padded
