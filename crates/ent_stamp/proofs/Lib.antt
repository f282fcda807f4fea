pub mod Stamping
pub mod Knowing
