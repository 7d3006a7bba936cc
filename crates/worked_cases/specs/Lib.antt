pub mod Seats
pub mod Statement
