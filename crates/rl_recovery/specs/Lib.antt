pub mod Examples
pub mod Keys
pub mod Objects
