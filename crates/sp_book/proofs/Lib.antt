pub mod Listed
pub mod GoneBy
pub mod Facts
