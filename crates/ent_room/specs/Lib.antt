pub mod Room
pub mod Acts
pub mod Putting
pub mod Reading
pub mod State
pub mod Passed
