pub mod Newness
pub mod Held
pub mod Steps
pub mod Soundness
pub mod ByKey
pub mod Renewing
pub mod Fed
pub mod Examples
