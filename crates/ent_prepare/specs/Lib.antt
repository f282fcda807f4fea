pub mod Givable
pub mod Given
pub mod Fault
pub mod Cached
pub mod Prepared
