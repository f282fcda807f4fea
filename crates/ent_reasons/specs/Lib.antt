pub mod Demand
pub mod Noted
pub mod News
