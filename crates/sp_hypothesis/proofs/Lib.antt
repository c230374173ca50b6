pub mod Descending
pub mod Parts
pub mod Broken
