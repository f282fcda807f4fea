pub mod Mode
pub mod Holders
pub mod Use
pub mod Layout
