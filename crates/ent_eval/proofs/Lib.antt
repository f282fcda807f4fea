pub mod Alone
pub mod Chosen
pub mod Effects
pub mod Standing
pub mod Used
