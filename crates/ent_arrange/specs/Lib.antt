pub mod Arranged
pub mod Cut
pub mod Doubts
pub mod Written
