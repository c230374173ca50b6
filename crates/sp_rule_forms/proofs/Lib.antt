pub mod One
pub mod Runs
