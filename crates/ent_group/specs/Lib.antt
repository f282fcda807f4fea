pub mod Groups
pub mod Cycle
pub mod Marks
pub mod Reach
