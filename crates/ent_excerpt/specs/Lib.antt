pub mod Line
pub mod Place
pub mod Part
pub mod Excerpt
