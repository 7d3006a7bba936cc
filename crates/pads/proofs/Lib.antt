pub mod Comparing
pub mod Held
pub mod Properly
