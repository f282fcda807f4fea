pub mod Chosen
pub mod Formed
pub mod Numbers
pub mod Picked
pub mod Reread
