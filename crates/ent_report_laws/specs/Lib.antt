pub mod Tellable
pub mod Alike
pub mod Read
