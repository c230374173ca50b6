pub mod ItemFindings
pub mod Report
pub mod Laws
pub mod Told
