pub mod Idle
pub mod Among
pub mod Numbers
pub mod Tidied
pub mod TidySteps
pub mod Led
pub mod Closing
pub mod Numbering
