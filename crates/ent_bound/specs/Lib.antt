pub mod Bindable
pub mod Over
pub mod Values
pub mod Bound
pub mod Refused
