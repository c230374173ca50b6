pub mod Collected
pub mod Passing
