pub mod Line
pub mod Block
pub mod Told
