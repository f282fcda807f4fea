pub mod Relation
pub mod Kept
pub mod Change
pub mod Part
pub mod Closure
pub mod First
pub mod ByRow
pub mod Numbered
