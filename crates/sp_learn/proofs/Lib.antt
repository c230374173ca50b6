pub mod Learnt
pub mod Ways
pub mod Clauses
pub mod Checks
pub mod Used
pub mod Orders
