pub mod Reading
pub mod Io
pub mod Fault
