pub mod Seats
pub mod Look
pub mod Runs
pub mod Fates
pub mod Passed
