pub mod Top
pub mod Input
pub mod Stages
pub mod Start
