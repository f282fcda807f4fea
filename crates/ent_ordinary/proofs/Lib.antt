mod Combinations
mod Fronts
pub mod Narrowed
mod Searched
mod Wanted
pub mod Changes
pub mod Images
pub mod ChangeNarrowed
