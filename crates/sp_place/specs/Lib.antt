pub mod Refused
pub mod Remaining
pub mod Texts
pub mod Runs
pub mod Laws
