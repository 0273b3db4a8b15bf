pub mod Order
pub mod Ranked
