pub mod Articles
pub mod Book
