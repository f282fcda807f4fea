pub mod Hearing
pub mod Told
