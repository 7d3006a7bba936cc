pub mod Sayings
pub mod Sectioned
