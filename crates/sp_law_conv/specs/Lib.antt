pub mod Clash
pub mod Accepted
pub mod Laws
