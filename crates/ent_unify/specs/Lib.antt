pub mod Side
pub mod Equation
pub mod Tuple
pub mod Unifier
