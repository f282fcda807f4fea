pub mod Leaving
pub mod Taken
