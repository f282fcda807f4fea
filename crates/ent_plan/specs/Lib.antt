pub mod Plan
pub mod Tables
pub mod Pairs
pub mod Agreement
pub mod Classes
pub mod Ranged
