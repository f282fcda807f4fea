pub mod Cells
pub mod Listed
pub mod Merge
pub mod Changes
pub mod Databases
pub mod Numbers
pub mod Pieces
pub mod Told
