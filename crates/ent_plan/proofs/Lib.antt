pub mod Order
pub mod Choices
pub mod Pairing
pub mod Rows
pub mod Facts
pub mod Meeting
pub mod Planning
pub mod Selection
