pub mod Ways
pub mod Searching
pub mod Leading
pub mod Deciding
