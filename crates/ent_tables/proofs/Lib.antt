pub mod Places
pub mod Notes
pub mod Changing
pub mod Leaving
pub mod Opening
pub mod Settled
