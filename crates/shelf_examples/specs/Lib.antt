pub mod Holding
pub mod Blocks
