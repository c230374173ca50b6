pub mod Counted
pub mod Instances
pub mod Pairs
pub mod Sorted
