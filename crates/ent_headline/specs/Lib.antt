pub mod Resolved
pub mod Outstanding
pub mod Setting
pub mod Kinds
