pub mod Layers
pub mod Indexed
pub mod Emptied
