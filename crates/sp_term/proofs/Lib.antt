pub mod Lists
pub mod Cloned
pub mod Applied
pub mod Loops
pub mod Rows
pub mod Resolved
