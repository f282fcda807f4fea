pub mod Shapes
pub mod SpelledOperands
pub mod Tables
pub mod SpelledSelects
pub mod SpelledConditions
pub mod SpelledItems
pub mod Queries
pub mod SpelledScripts
pub mod Combining
pub mod Operands
pub mod Lists
pub mod Selects
pub mod Statements
pub mod Conditions
pub mod Items
pub mod Scripts
pub mod Keeping
pub mod KeptOperands
pub mod KeptSelects
pub mod KeptEntangling
pub mod KeptScripts
pub mod Following
mod Kept
mod Meant
mod Readable
