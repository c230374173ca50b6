pub mod Steps
pub mod Counts
pub mod Way
pub mod Values
pub mod Sorts
pub mod Differences
pub mod Finding
pub mod Unique
