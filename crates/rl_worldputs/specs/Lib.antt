pub mod Puts
pub mod Uses
pub mod Refusals
pub mod NoEntries
pub mod Listings
