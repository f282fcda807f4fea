pub mod Again
pub mod Admission
pub mod Moves
pub mod Groups
pub mod Acts
pub mod Passed
