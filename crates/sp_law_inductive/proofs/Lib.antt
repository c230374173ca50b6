pub mod Logs
pub mod Principle
pub mod Bound
pub mod Settled
pub mod Solved
pub mod Covering
pub mod Examples
