pub mod Stock
pub mod Choice
pub mod Calls
pub mod Answers
pub mod Steps
pub mod Changes
pub mod OpeningRefusals
pub mod Opening
