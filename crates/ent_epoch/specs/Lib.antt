pub mod Notes
pub mod Publishing
pub mod Telling
pub mod OneRun
pub mod Epoch
pub mod Told
pub mod Passed
