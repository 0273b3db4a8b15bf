pub mod Computed
pub mod Acting
pub mod Arriving
pub mod Naming
pub mod Running
