pub mod Put_back
pub mod By_number
