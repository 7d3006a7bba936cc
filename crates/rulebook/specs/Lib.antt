pub mod Tests
pub mod Cases
pub mod Refusals
pub mod Verdicts
pub mod Books
