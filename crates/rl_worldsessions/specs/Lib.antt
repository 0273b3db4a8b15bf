pub mod Logs
pub mod Serving
pub mod Sessions
pub mod Paged
