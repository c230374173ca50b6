pub mod View
pub mod Learning
pub mod Checking
pub mod Meaning
pub mod Laws
