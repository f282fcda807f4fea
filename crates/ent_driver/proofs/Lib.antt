pub mod OneQuery
pub mod Outside
