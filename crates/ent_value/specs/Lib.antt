pub mod Name
pub mod Value
pub mod Order
pub mod Print
pub mod Refusal
pub mod Watched
pub mod Ticks
pub mod Kinds
