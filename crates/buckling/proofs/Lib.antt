pub mod Fair
pub mod Quotients
pub mod Roots
pub mod Rings
pub mod Wholes
pub mod Exact
