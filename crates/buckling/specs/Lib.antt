pub mod Greatest
pub mod Terms
pub mod Article
pub mod Cleared
