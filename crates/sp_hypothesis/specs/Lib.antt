pub mod Descending
pub mod Broken
