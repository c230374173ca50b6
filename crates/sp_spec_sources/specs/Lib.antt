pub mod Heads
pub mod Entries
