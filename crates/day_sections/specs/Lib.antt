pub mod Sections
pub mod Faults
pub mod Collecting
pub mod Texts
