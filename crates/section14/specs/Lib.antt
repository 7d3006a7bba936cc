pub mod Coefficients
pub mod Axes
pub mod Articles
pub mod Cleared
pub mod Book
