pub mod Inserting
pub mod Arrivals
pub mod Scripts
pub mod Epochs
pub mod Quiet
