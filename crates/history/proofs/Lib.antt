pub mod Balance
pub mod Law
pub mod Alike
pub mod Bearings
pub mod Runs
