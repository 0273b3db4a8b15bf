pub mod Entries
pub mod Logs
pub mod Growth
pub mod Actors
pub mod Found
pub mod Serving
pub mod Sessions
pub mod Paging
