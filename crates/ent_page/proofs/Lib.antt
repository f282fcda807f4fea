mod Laid
mod Search
pub mod Sorted
mod Paging
mod Fronts
mod Cells
mod Beginnings
mod Changes
mod Chunks
