pub mod Marking
pub mod Hearing
