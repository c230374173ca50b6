pub mod View
pub mod Checking
