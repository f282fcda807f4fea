pub mod Held
pub mod Requests
