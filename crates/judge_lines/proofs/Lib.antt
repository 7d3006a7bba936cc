pub mod Cutting
pub mod LineCutting
pub mod Counting
pub mod Bounded
