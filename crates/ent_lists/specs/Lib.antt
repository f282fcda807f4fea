pub mod Elements
pub mod Sets
pub mod Laws
