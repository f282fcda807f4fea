pub mod Fault
pub mod Verdicts
