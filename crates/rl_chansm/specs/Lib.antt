pub mod Connection
pub mod Laws
pub mod Owed
pub mod Rules
pub mod Table
