pub mod KeptOut
pub mod Offered
pub mod Seen
