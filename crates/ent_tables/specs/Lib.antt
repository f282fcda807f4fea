pub mod Stored
pub mod AtNumber
