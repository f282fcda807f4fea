pub mod Lists
pub mod Undoing
pub mod History
