pub mod Views
pub mod Following
pub mod Serving
pub mod Records
pub mod Turning
pub mod Growing
pub mod Made
pub mod Laws
