pub mod Listed
pub mod Names
pub mod Least
pub mod Sources
pub mod Settled
pub mod Ready
