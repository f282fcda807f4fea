mod Beginning
pub mod Lexemes
pub mod Reading
pub mod Places
