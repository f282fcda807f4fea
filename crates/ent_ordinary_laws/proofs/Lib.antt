pub mod Alone
pub mod Going
