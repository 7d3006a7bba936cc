pub mod Search
pub mod Taking
