pub mod Truth
pub mod Numbers
pub mod Orders
pub mod Options
pub mod Contained
pub mod Lists
