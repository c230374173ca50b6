pub mod Going
pub mod Held
pub mod Methods
pub mod One
pub mod Parted
pub mod Places
pub mod Reading
pub mod Starts
