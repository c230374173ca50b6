pub mod Gathered
pub mod Counted
pub mod Learnt
pub mod Sorts
pub mod Nothing
pub mod Telling
pub mod Stepping
