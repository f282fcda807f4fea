pub mod Trace
pub mod Columns
pub mod Members
pub mod Escape
