pub mod Lists
pub mod Told
pub mod Instances
pub mod Steps
pub mod Reached
pub mod Replays
