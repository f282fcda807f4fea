pub mod Lexeme
pub mod Spelling
pub mod Printing
pub mod Reading
pub mod Write
