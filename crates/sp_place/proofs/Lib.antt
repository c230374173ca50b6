pub mod Taking
pub mod Runs
pub mod Places
