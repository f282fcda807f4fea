pub mod Report
pub mod Report2
pub mod Tables
pub mod Version
pub mod Write
