pub mod Computed
pub mod DirectoryLaws
pub mod History
pub mod Keeping
