pub mod Listing
pub mod Numeral
pub mod Naming
pub mod Candidate
