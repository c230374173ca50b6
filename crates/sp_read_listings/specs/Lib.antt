pub mod Made
pub mod Heuristics
pub mod Listings
pub mod Views
