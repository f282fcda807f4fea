pub mod Change
pub mod Records
pub mod Writes
