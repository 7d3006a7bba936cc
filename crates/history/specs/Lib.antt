pub mod History
pub mod Account
pub mod Kept
pub mod Decided
pub mod Section14
pub mod Guarantee
