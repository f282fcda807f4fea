pub mod Ran
pub mod Written
