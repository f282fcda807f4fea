pub mod Keeping
pub mod Endings
mod Times
mod Order
mod Goes
mod Invariant
mod Moves
mod Written
mod Steps
mod Reached
mod Onward
mod Witness
mod Lists
