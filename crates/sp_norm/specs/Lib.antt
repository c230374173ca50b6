pub mod Bounds
pub mod Over
