pub mod Coming
pub mod Ended
pub mod Stopped
pub mod Written
