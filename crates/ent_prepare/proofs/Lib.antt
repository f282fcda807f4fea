pub mod Joined
pub mod First
pub mod Kept
