pub mod Joints
pub mod Epochs
pub mod Opening
pub mod Tickets
pub mod Text
pub mod Meeting
