pub mod Work
pub mod Lent
