mod Steps
pub mod Itself
mod Texts
