pub mod Comparing
pub mod Rows
pub mod Held
pub mod Properly
