pub mod Ends
pub mod Names
pub mod Serials
pub mod Turns
pub mod Backs
pub mod Answered
pub mod Held
