pub mod Computed
pub mod Ends
pub mod Lasts
pub mod Sent
pub mod Sequenced
pub mod Stands
