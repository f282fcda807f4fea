pub mod Places
pub mod Solving
pub mod Solutions
pub mod Tuples
pub mod Atoms
pub mod Filled
pub mod Classes
pub mod Pairs
