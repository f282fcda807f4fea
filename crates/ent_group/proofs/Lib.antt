pub mod Labels
pub mod LabelAt
pub mod CycleWalk
pub mod Walks
