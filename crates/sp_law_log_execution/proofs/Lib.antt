pub mod Raised
pub mod Ways
pub mod Lifted
pub mod Links
pub mod Kept
pub mod Knowing
pub mod Learning
pub mod Steps
