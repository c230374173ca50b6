pub mod Bits
pub mod Closing
pub mod Keeping
pub mod Places
pub mod Untouched
