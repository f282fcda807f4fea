pub mod Claims
pub mod Step
