pub mod Behind
pub mod Statuses
pub mod Texts
pub mod Rooms
pub mod Saying
