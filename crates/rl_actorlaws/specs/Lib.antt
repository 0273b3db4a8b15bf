pub mod Carried
pub mod Readable
pub mod Shows
pub mod Told
