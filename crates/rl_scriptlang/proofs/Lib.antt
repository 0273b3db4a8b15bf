pub mod Numbers
pub mod Splits
pub mod Utf8
pub mod Texts
pub mod FirstLines
pub mod Kept
pub mod Small
