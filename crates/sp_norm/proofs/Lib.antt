pub mod Rows
pub mod Symbols
