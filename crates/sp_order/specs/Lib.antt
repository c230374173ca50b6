pub mod Closed
pub mod Ordered
pub mod Truths
