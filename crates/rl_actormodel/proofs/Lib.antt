pub mod Answered
pub mod Computed
pub mod Connected
pub mod Named
pub mod Outbox
pub mod Positions
pub mod Silent
pub mod Shown
