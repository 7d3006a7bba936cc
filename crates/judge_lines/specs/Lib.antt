pub mod Lines
pub mod Words
pub mod Numbers
pub mod Readings
pub mod Records
pub mod Entries
pub mod Reader
pub mod Texts
