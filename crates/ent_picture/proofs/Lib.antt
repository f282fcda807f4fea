pub mod Lines
pub mod Parts
pub mod Found
pub mod Rising
pub mod Escaping
