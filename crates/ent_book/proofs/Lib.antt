pub mod Ascending
pub mod Names
pub mod NoRows
mod FirstOfEach
