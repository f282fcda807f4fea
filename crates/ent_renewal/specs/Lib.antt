pub mod Finished
pub mod Renewal
pub mod Rows
