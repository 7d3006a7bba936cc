pub mod Parting
